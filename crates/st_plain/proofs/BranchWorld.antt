-- The next world where a branch begins, is brought up to date, is merged or is dropped, by what the client's functions say.
use Rattle.std.proofs.Common.{Bool, List, None, Option, Some, ap, arith, cond, false, inl, inr, length, refl, subst, sym, true, ℕ, ◌++◌, ◌+◌, ◌∙◌, ◌≡◌, ◌≢◌, ◌≤◌, ◌⊎◌}
use Rattle.std.specs.List.{AllByRecursion, slice_get, slice_set}
use Rattle.std.specs.Option.{option_and_then}
use Rattle.std.specs.Prelude.{◌-◌}
use Rattle.st_doc.specs.Doc.{document_of}
use Rattle.st_heads.specs.declared.heads.Head.{Head}
use Rattle.st_ids.specs.Listing.{AreDistinct, Has}
use Rattle.st_lists.specs.Lines.{branch_place}
use Rattle.st_plain_branches.specs.Branches.{HasDropped, HasForked, HasForkedOn, HasMerged, HasNoLine, HasRebased, ground_of, void_among, with_ground, without_head, without_place}
use Rattle.st_heads.specs.Replicas.{head_of}
use Rattle.st_lists.specs.Lines.{HasHead, Line, branch_of, has_children, line_of, on_branch, with_base, with_branch, with_commits_on, without_branch}
use Rattle.st_lists.specs.Names.{names_in, names_on}
use Rattle.st_lists.specs.declared.lists.Branch.{Branch}
use Rattle.st_lists.specs.declared.lists.Client.{Client}
use Rattle.st_lists.specs.declared.lists.Entry.{Entry}
use Rattle.st_lists.specs.declared.lists.Transaction.{Transaction}
use Rattle.st_lists.specs.declared.lists.WorldState.{WorldState}
use Rattle.st_log_laws.proofs.Turns.{rest as rest_fit}
use Rattle.st_log_laws.specs.Turns.{FitInTurn}
use Rattle.st_marks.specs.Document.{Document, IsSoundInForm}
use Rattle.st_script.specs.Header.{HeaderView, header_view}
use Rattle.st_script.specs.declared.answer.Answer.{Answer}
use Rattle.st_script.specs.declared.answer.Answer.TheVariants.{DropBranch, No}
use Rattle.st_script.specs.declared.refusal.Refusal.{Refusal}
use Rattle.st_script.specs.declared.refusal.Refusal.TheVariants.{HasChildren, NoBranch}
use Rattle.st_plain.proofs.Acting.{one_at, same_world, sound_goes, world_refused}
use Rattle.st_world_laws.proofs.Clients.{head_sound as head_doc_sound}
use Rattle.st_world_laws.proofs.Among.{line_fit}
use Rattle.st_world_laws.proofs.Begun.{IsStart}
use Rattle.st_plain.proofs.BranchHeads.{heads_many, line_head, without_at}
use Rattle.st_world_laws.proofs.BranchNames.{names_among}
use Rattle.st_world_laws.proofs.BranchSteps.{drop_goes, fork_goes, may_merge, may_rebase, merge_goes, parent_apart, parent_there, rebase_goes}
use Rattle.st_plain.proofs.BranchSteps.{kept_dropped, kept_forked, kept_merged, kept_rebased, void_as}
use Rattle.st_plain_branches.proofs.Branched.{changed_at, found_at, found_by}
use Rattle.st_world_laws.proofs.Everyone.{all_as, all_get, set_same}
use Rattle.st_plain.proofs.Everyone.{clients_of}
use Rattle.st_world_laws.proofs.Forking.{client_drops, line_left}
use Rattle.st_plain_schemas.specs.Schemas.{HasReading}
use Rattle.st_world_laws.proofs.Going.{GoesOn}
use Rattle.st_plain.proofs.Keeping.{AreOne, kept_main}
use Rattle.st_world_laws.proofs.Lookup.{branch_there}
use Rattle.st_plain.proofs.MergeParts.{head_beside, merged_void}
use Rattle.st_world_laws.proofs.Parts.{names_edited}
use Rattle.st_world_laws.proofs.Rebasing.{own_fits_behind_parent}
use Rattle.st_plain.proofs.Stepping.{sound_later, start_of}
use Rattle.st_world.specs.Branches.{IsMerged, IsRebased, drop_branch, fork, refusal_to_fork, refusal_to_merge, refusal_to_rebase}
use Rattle.st_world.specs.Kept.{Unless}
use Rattle.st_world_laws.specs.Worlds.{IsBranch, IsClient}
use Rattle.st_plain.specs.Replicas.{IsReplicaOf, IsSound, IsSoundAfter}
use Rattle.st_world.specs.World.{AtRefusal, IsBranchDropped, IsForked, IsMergedBy, IsRebasedBy, IsUnchanged, OnOwnBranch, OnParent, opening_document, with_client}
use Rattle.st_heads.specs.declared.replica.Replica.{Replica}
use Rattle.st_plain.specs.declared.world.World.{World}

same_some : {X : Type 0} (x y : X) → Some x ≡ Some y → x ≡ y
same_some x y e = cc

module _ (w : World) (i : ℕ) (c : Client) (k : Replica) (s : IsSound w) (at_c : slice_get w.lists.clients i ≡ Some c) (at_k : slice_get w.kept i ≡ Some k) (number : ℕ) where
  abbrev h : HeaderView
  h = header_view w.header

  abbrev log : List Entry
  log = w.lists.log

  abbrev O : Document
  O = opening_document h

  abbrev st : IsStart O
  st = start_of w w.steps s

  one : AreOne h log c k
  one = one_at w i c k s at_c at_k

  are : AllByRecursion (IsClient h log) w.lists.clients
  are = clients_of h log w.lists.clients w.kept s.kept

  pub many : length k.branches ≡ length c.branches
  many = heads_many O log c.branches k.branches one.kept.branches

  pub few_forks : c.forks ≤ w.steps
  few_forks = all_get (λ (x : Client). x.forks ≤ w.steps) w.lists.clients i c s.forks at_c

  pub few_own : AllByRecursion (λ (b : Branch). length b.own ≤ 256) c.branches
  few_own = all_as (IsBranch h log c) (λ (b : Branch). length b.own ≤ 256) c.branches (λ b x. x.few) one.client.branches.each

  abbrev Next : Client → Replica → Type 0
  Next d m = IsSoundAfter (w.steps + 1) (record w { lists = record w.lists { clients = slice_set w.lists.clients i d }; kept = slice_set w.kept i m })

  abbrev Left : Client → Replica → Answer → Type 0
  Left d m a = AtRefusal a ((d ≡ c) × (m ≡ k))

  -- the world goes on, and a refusal leaves it
  abbrev GoesOnAt : Client → Replica → Answer → Type 0
  GoesOnAt d m a = Next d m × Left d m a

  stays_at : (d : Client) (m : Replica) (a : Answer) (why : Refusal) → (d ≡ c) → (m ≡ k) → (a ≡ No why) → GoesOnAt d m a
  stays_at d m a why same same_k is = (
    subst (IsSoundAfter (w.steps + 1)) (sym (same_world w i c d k m at_c at_k (same, same_k))) (sound_later w.steps w s),
    subst (λ x. AtRefusal x ((d ≡ c) × (m ≡ k))) (sym is) (same, same_k),
  )

  pub none_at : (d : Client) (m : Replica) (a : Answer) → HasNoLine c k d m a → GoesOnAt d m a
  none_at d m a none = stays_at d m a NoBranch none.0 none.1 none.2

  pub left_world : (d : Client) (m : Replica) (a : Answer) → Left d m a → AtRefusal a (◌≡◌ {A = World} (record w { lists = record w.lists { clients = slice_set w.lists.clients i d }; kept = slice_set w.kept i m }) w)
  left_world d m a left = world_refused w i c d k m a at_c at_k left

  -- the head of a line, and that it is one
  head_of_line : (n : ℕ) (l : Line) → line_of c n ≡ Some l → (p : Head) × (head_of c k n ≡ Some p) × HasHead O log l (document_of p.doc)
  head_of_line n l line = line_head O log c k n l (kept_main h log c k one.kept) one.kept.branches line

  -- ## Forking

  module _ (d : Client) (m : Replica) (a : Answer) (answer : (l : Line) → line_of c number ≡ Some l → fork c number l (refusal_to_fork c l) ≡ (d, a))
      (kept : (l : Line) → line_of c number ≡ Some l → HasForked (head_of c k number) (refusal_to_fork c l) k m) (none : line_of c number ≡ None → HasNoLine c k d m a) where
    fork_at : (l : Line) → line_of c number ≡ Some l → GoesOnAt d m a
    fork_at l line = go (refusal_to_fork c l) (answer l line) (kept l line)
      where
        goes : GoesOn h st (HasReading w.schemas) log w.lists.clients i c d
        goes = fork_goes h st (HasReading w.schemas) log w.lists.clients s.sessions are s.few_names s.schema i c at_c d number l a line (answer l line)

        go : (o : Option Refusal) → fork c number l o ≡ (d, a) → HasForked (head_of c k number) o k m → GoesOnAt d m a
        go (Some why) is same = stays_at d m a why (ap (λ (x : Client × Answer). x.0) (sym is)) same (ap (λ (x : Client × Answer). x.1) (sym is))
        go None is forked =
            let p = head_of_line number l line in
            let f : HasForkedOn (Some p.0) k m = subst (λ o. HasForkedOn o k m) p.1 forked in
            let now = subst (IsReplicaOf h log (with_branch c number l)) (sym f.2) (kept_forked h log c k number l p.0 f.0 one.kept p.2 f.1) in (
              sound_goes w i c k s at_c at_k d m goes (subst (λ x. IsReplicaOf h log x m) (ap (λ (x : Client × Answer). x.0) is) now),
              subst (λ x. AtRefusal x ((d ≡ c) × (m ≡ k))) (ap (λ (x : Client × Answer). x.1) is) tt,
            )

    pub forks_on : GoesOnAt d m a
    forks_on = go (line_of c number) refl
      where
        go : (o : Option Line) → line_of c number ≡ o → GoesOnAt d m a
        go None e = none_at d m a (none e)
        go (Some l) e = fork_at l e

    pub fork_next : (q : Client) (l : Line) → slice_get w.lists.clients i ≡ Some q → line_of q number ≡ Some l → IsForked w.lists i q number l (record w.lists { clients = slice_set w.lists.clients i d }) a
    fork_next q l at line =
        let same : c ≡ q = same_some c q (sym at_c ∙ at) in
        subst (λ (x : Client). IsForked w.lists i x number l (record w.lists { clients = slice_set w.lists.clients i d }) a) same
        (ap (with_client w.lists i) (answer l (subst (λ (x : Client). line_of x number ≡ Some l) (sym same) line)))

  -- ## A branch and its parent

  -- the branch at the place of the number, its parent's line and the head of that
  pub record HasParent (j : ℕ) (b : Branch) (l : Line) (p : Head) : Type 0 where
    pub found : branch_of c number ≡ Some b
    pub named : b.number ≡ number
    pub among : Has c.branches b
    pub line : line_of c b.parent ≡ Some l
    pub apart : b.parent ≢ b.number
    pub head : head_of c k b.parent ≡ Some p
    pub leads : HasHead O log l (document_of p.doc)

  abbrev There : Type 0
  There = (j : ℕ) × (b : Branch) × (branch_place number c.branches ≡ Some j) × (slice_get c.branches j ≡ Some b)

  pub parent_of : (j : ℕ) (b : Branch) → branch_place number c.branches ≡ Some j → slice_get c.branches j ≡ Some b → (l : Line) × (p : Head) × HasParent j b l p
  parent_of j b place at =
      let x = found_by number c.branches j place in
      let same : x.0 ≡ b = same_some x.0 b (sym x.2 ∙ at) in
      let found : branch_of c number ≡ Some b = x.1 ∙ ap (λ (y : Branch). Some y) same in
      let among = branch_there c number b found in
      let l = parent_there h st log c one.client b among.0 in
      let p = head_of_line b.parent l.0 l.1 in
      (l.0, p.0, record { found = found; named = among.1; among = among.0; line = l.1; apart = parent_apart h st log c one.client b among.0; head = p.1; leads = p.2 })

  there_or_not : There ⊎ (branch_place number c.branches ≡ None)
  there_or_not = go (branch_place number c.branches) refl
    where
      go : (o : Option ℕ) → branch_place number c.branches ≡ o → There ⊎ (branch_place number c.branches ≡ None)
      go None e = inr e
      go (Some j) e = let b = found_by number c.branches j e in inl (j, b.0, e, b.2)

  no_branch : branch_place number c.branches ≡ None → branch_of c number ≡ None
  no_branch none = go (branch_of c number) refl
    where
      go : (o : Option Branch) → branch_of c number ≡ o → o ≡ None
      go None e = refl
      go (Some b) e =
          let r = found_at number c.branches b e in
          absurd (bad (branch_place number c.branches) r.0 r.1 none)
        where
          bad : (o : Option ℕ) (j : ℕ) → o ≡ Some j → o ≡ None → ⊥
          bad o j e f = cc

  -- a branch's own commits can be carried out behind what its parent has
  pub own_behind : (j : ℕ) (b : Branch) (l : Line) (p : Head) → HasParent j b l p → IsSoundInForm (document_of p.doc) × FitInTurn (document_of p.doc) b.own
  own_behind j b l p x = (
    head_doc_sound h st log l (document_of p.doc) (line_fit h st log c one.client b.parent l x.line) x.leads,
    rest_fit b.own x.leads (own_fits_behind_parent h st log c one.client number b l x.among x.named x.line s.few_names),
  )

  pub can_rebase : (j : ℕ) (b : Branch) (p : Head) → branch_place number c.branches ≡ Some j → slice_get c.branches j ≡ Some b → head_of c k b.parent ≡ Some p → IsSoundInForm (document_of p.doc) × FitInTurn (document_of p.doc) b.own
  can_rebase j b p place at head =
      let x = parent_of j b place at in
      let same : x.1 ≡ p = same_some x.1 p (sym x.2.head ∙ head) in
      subst (λ (y : Head). IsSoundInForm (document_of y.doc) × FitInTurn (document_of y.doc) b.own) same (own_behind j b x.0 x.1 x.2)

  pub can_merge : (j : ℕ) (b : Branch) (p : Head) → branch_place number c.branches ≡ Some j → slice_get c.branches j ≡ Some b → head_of (without_place c j) (without_head k j) b.parent ≡ Some p
      → IsSoundInForm (document_of p.doc) × FitInTurn (document_of p.doc) b.own
  can_merge j b p place at head =
      let x = parent_of j b place at in
      can_rebase j b p place at (sym (head_beside c k b.parent j b at (λ e. x.2.apart (sym e)) many) ∙ head)

  -- a step by the parent's line, told of the client at the place
  on_own : (q : Client) (v : WorldState) (a : Answer) (does : Client → Branch → Line → Type 0) → slice_get w.lists.clients i ≡ Some q
      → ((j : ℕ) (b : Branch) (l : Line) (p : Head) → branch_place number c.branches ≡ Some j → slice_get c.branches j ≡ Some b → HasParent j b l p → does c b l) → (branch_place number c.branches ≡ None → IsUnchanged w.lists v a (No NoBranch))
      → OnOwnBranch w.lists q (does q) (branch_of q number) v a
  on_own q v a does at some none =
      let same : c ≡ q = same_some c q (sym at_c ∙ at) in
      subst (λ (x : Client). OnOwnBranch w.lists x (does x) (branch_of x number) v a) same (go there_or_not)
    where
      go : There ⊎ (branch_place number c.branches ≡ None) → OnOwnBranch w.lists c (does c) (branch_of c number) v a
      go (inr e) = subst (λ o. OnOwnBranch w.lists c (does c) o v a) (sym (no_branch e)) (none e)
      go (inl x) =
          let y = parent_of x.0 x.1 x.2 x.3 in
          subst (λ o. OnOwnBranch w.lists c (does c) o v a) (sym y.2.found) (subst (λ o. OnParent w.lists (does c x.1) o v a) (sym y.2.line) (some x.0 x.1 y.0 y.1 x.2 x.3 y.2))

  same_lists : (d : Client) → d ≡ c → ◌≡◌ {A = WorldState} (record w.lists { clients = slice_set w.lists.clients i d }) w.lists
  same_lists d same =
      let clients : slice_set w.lists.clients i d ≡ w.lists.clients = ap (slice_set w.lists.clients i) same ∙ set_same w.lists.clients i c at_c in
      λ n. record w.lists { clients = clients n }

  -- ## Rebasing

  -- the branch on its parent's line anew is the one at its place on other ground
  based : (j : ℕ) (b : Branch) (l : Line) → b.number ≡ number → slice_get c.branches j ≡ Some b → with_base c number l ≡ record c { branches = slice_set c.branches j (with_ground b (ground_of l)) }
  based j b l named at =
      let f : Branch → Branch = λ (x : Branch). record x { received = l.received; base = l.base ++ l.own } in
      let here : on_branch number f c.branches ≡ slice_set c.branches j (f b) = subst (λ n. on_branch n f c.branches ≡ slice_set c.branches j (f b)) named (changed_at f c.branches j b one.client.branches.numbers at) in
      ap (λ (bs : List Branch). record c { branches = bs }) here

  module _ (d : Client) (m : Replica) (a : Answer) (none : branch_place number c.branches ≡ None → HasNoLine c k d m a)
      (rebased : (j : ℕ) (b : Branch) (l : Line) (p : Head) → branch_place number c.branches ≡ Some j → slice_get c.branches j ≡ Some b → line_of c b.parent ≡ Some l → head_of c k b.parent ≡ Some p → HasRebased c k j b l p (refusal_to_rebase b) d m a) where
    rebase_at : (j : ℕ) (b : Branch) (l : Line) (p : Head) → branch_place number c.branches ≡ Some j → slice_get c.branches j ≡ Some b → HasParent j b l p
        → GoesOnAt d m a × Unless (refusal_to_rebase b) c d a (IsRebased O log c number b l d a)
    rebase_at j b l p place at x = go (refusal_to_rebase b) refl (rebased j b l p place at x.line x.head)
      where
        go : (o : Option Refusal) → refusal_to_rebase b ≡ o → HasRebased c k j b l p o d m a → GoesOnAt d m a × Unless o c d a (IsRebased O log c number b l d a)
        go (Some why) e done = (stays_at d m a why done.0 done.1 done.2, (done.0, done.2))
        go None e done =
            let goes = rebase_goes h st (HasReading w.schemas) log w.lists.clients s.sessions are s.few_names s.schema i c at_c number b x.found l x.line e in
            let based_c = based j b l x.named at in
            let now = kept_rebased h log c k j b l p done.0 one.kept at (may_rebase b e) x.leads done.1 done.2 in
            let is_d : d ≡ with_base c number l = done.3 ∙ sym based_c in
            let void = void_as (document_of p.doc) (document_of done.0.doc) b.own done.0.own done.1 in (
              (
                sound_goes w i c k s at_c at_k d m (subst (GoesOn h st (HasReading w.schemas) log w.lists.clients i c) (sym is_d) goes)
                    (subst (λ y. IsReplicaOf h log y m) (sym done.3) (subst (IsReplicaOf h log (record c { branches = slice_set c.branches j (with_ground b (ground_of l)) })) (sym done.4) now)),
                subst (λ y. AtRefusal y ((d ≡ c) × (m ≡ k))) (sym done.5) tt,
              ),
              (document_of p.doc, void_among b.own done.0.own, x.leads, void, is_d, done.5),
            )

    pub rebases_on : GoesOnAt d m a
    rebases_on = go there_or_not
      where
        go : There ⊎ (branch_place number c.branches ≡ None) → GoesOnAt d m a
        go (inr e) = none_at d m a (none e)
        go (inl x) = let y = parent_of x.0 x.1 x.2 x.3 in (rebase_at x.0 x.1 y.0 y.1 x.2 x.3 y.2).0

    pub rebase_next : (q : Client) → slice_get w.lists.clients i ≡ Some q → IsRebasedBy h w.lists i q number (record w.lists { clients = slice_set w.lists.clients i d }) a
    rebase_next q at =
        let v = record w.lists { clients = slice_set w.lists.clients i d } in
        on_own q v a (λ (x : Client) b l. (e : Client) × Unless (refusal_to_rebase b) x e a (IsRebased O log x number b l e a) × (v ≡ record w.lists { clients = slice_set w.lists.clients i e })) at
        (λ j b l p place at x. (d, (rebase_at j b l p place at x).1, refl)) (λ e. let n = none e in (same_lists d n.0, n.2))

  -- ## Merging

  module _ (d : Client) (m : Replica) (a : Answer) (none : branch_place number c.branches ≡ None → HasNoLine c k d m a)
      (merged : (j : ℕ) (b : Branch) (l : Line) (p : Head) → branch_place number c.branches ≡ Some j → slice_get c.branches j ≡ Some b → line_of c b.parent ≡ Some l → head_of (without_place c j) (without_head k j) b.parent ≡ Some p
      → HasMerged c k j b p (refusal_to_merge c number b l) d m a) where
    merge_at : (j : ℕ) (b : Branch) (l : Line) (p : Head) → branch_place number c.branches ≡ Some j → slice_get c.branches j ≡ Some b → HasParent j b l p
        → GoesOnAt d m a × Unless (refusal_to_merge c number b l) c d a (IsMerged O log c number b l d a)
    merge_at j b l p place at x = go (refusal_to_merge c number b l) refl (merged j b l p place at x.line beside)
      where
        beside : head_of (without_place c j) (without_head k j) b.parent ≡ Some p
        beside = head_beside c k b.parent j b at (λ e. x.apart (sym e)) many ∙ x.head

        -- to be without the branch is to be without the one at its place
        gone : without_branch c number ≡ without_place c j
        gone = subst (λ n. without_branch c n ≡ without_place c j) x.named (ap (λ (bs : List Branch). record c { branches = bs }) (without_at c.branches j b one.client.branches.numbers at))

        go : (o : Option Refusal) → refusal_to_merge c number b l ≡ o → HasMerged c k j b p o d m a → GoesOnAt d m a × Unless o c d a (IsMerged O log c number b l d a)
        go (Some why) e done = (stays_at d m a why done.0 done.1 done.2, (done.0, done.2))
        go None e done =
            let may = may_merge c number b l e in
            let goes = merge_goes h st (HasReading w.schemas) log w.lists.clients s.sessions are s.few_names s.schema i c at_c number b x.found l x.line e in
            let dropped = client_drops h st log c one.client number b x.among x.named may.2 in
            let numbers = subst (λ (y : Client). AreDistinct (λ (z : Branch). z.number) y.branches) gone dropped.branches.numbers in
            let line = subst (λ (y : Client). line_of y b.parent ≡ Some l) gone (line_left c number b.parent l one.client.branches.numbers x.line (λ same. x.apart (same ∙ sym x.named))) in
            let names = names_among c j b at in
            let alone : names_on b ≡ 0 + names_in b.own = ap (λ (o : Option Transaction). names_edited (option_and_then (λ (t : Transaction). t.joined) o) + names_in b.own) may.0 in
            let more : k.names ≡ (k.names - names_on b) + names_in b.own = omega (arith, names, alone, one.kept.names) in
            let now = kept_merged h log (without_place c j) d (without_head k j) m (k.names - names_on b) b.parent b.own l p a (kept_dropped h log c k j b one.kept at) more numbers line may.1 beside done in
            let told = merged_void (without_place c j) d (without_head k j) m b.parent p b.own a done in
            let is_d : d ≡ with_commits_on (without_branch c number) b.parent b.own = now.0 ∙ ap (λ (y : Client). with_commits_on y b.parent b.own) (sym gone) in (
              (
                sound_goes w i c k s at_c at_k d m (subst (GoesOn h st (HasReading w.schemas) log w.lists.clients i c) (sym is_d) goes) now.1,
                subst (λ y. AtRefusal y ((d ≡ c) × (m ≡ k))) (sym told.2) tt,
              ),
              (document_of p.doc, told.0, x.leads, told.1, is_d, told.2),
            )

    pub merges_on : GoesOnAt d m a
    merges_on = go there_or_not
      where
        go : There ⊎ (branch_place number c.branches ≡ None) → GoesOnAt d m a
        go (inr e) = none_at d m a (none e)
        go (inl x) = let y = parent_of x.0 x.1 x.2 x.3 in (merge_at x.0 x.1 y.0 y.1 x.2 x.3 y.2).0

    pub merge_next : (q : Client) → slice_get w.lists.clients i ≡ Some q → IsMergedBy h w.lists i q number (record w.lists { clients = slice_set w.lists.clients i d }) a
    merge_next q at =
        let v = record w.lists { clients = slice_set w.lists.clients i d } in
        on_own q v a (λ (x : Client) b l. (e : Client) × Unless (refusal_to_merge x number b l) x e a (IsMerged O log x number b l e a) × (v ≡ record w.lists { clients = slice_set w.lists.clients i e })) at
        (λ j b l p place at x. (d, (merge_at j b l p place at x).1, refl)) (λ e. let n = none e in (same_lists d n.0, n.2))

  -- ## Dropping

  module _ (d : Client) (m : Replica) (a : Answer) (none : branch_place number c.branches ≡ None → HasNoLine c k d m a)
      (dropped : (j : ℕ) (b : Branch) → branch_place number c.branches ≡ Some j → slice_get c.branches j ≡ Some b → HasDropped c k j b (has_children c number) d m a) where
    drop_at : (j : ℕ) (b : Branch) (l : Line) (p : Head) → branch_place number c.branches ≡ Some j → slice_get c.branches j ≡ Some b → HasParent j b l p → GoesOnAt d m a × (drop_branch c number ≡ (d, a))
    drop_at j b l p place at x = go (has_children c number) refl (dropped j b place at)
      where
        gone : without_branch c number ≡ without_place c j
        gone = subst (λ n. without_branch c n ≡ without_place c j) x.named (ap (λ (bs : List Branch). record c { branches = bs }) (without_at c.branches j b one.client.branches.numbers at))

        pair : {x y : Client} {p q : Answer} → x ≡ y → p ≡ q → ◌≡◌ {A = Client × Answer} (x, p) (y, q)
        pair e f = λ n. (e n, f n)

        go : (t : Bool) → has_children c number ≡ t → HasDropped c k j b t d m a → GoesOnAt d m a × (◌≡◌ {A = Client × Answer} (cond t (c, No HasChildren) (without_branch c number, DropBranch)) (d, a))
        go true e done = (stays_at d m a HasChildren done.0 done.1 done.2, pair (sym done.0) (sym done.2))
        go false e done =
            let goes = drop_goes h st (HasReading w.schemas) log w.lists.clients s.sessions are s.few_names s.schema i c at_c number b x.found e in
            let is_d : d ≡ without_branch c number = done.0 ∙ sym gone in (
              (
                sound_goes w i c k s at_c at_k d m (subst (GoesOn h st (HasReading w.schemas) log w.lists.clients i c) (sym is_d) goes)
                    (subst (λ y. IsReplicaOf h log y m) (sym done.0) (subst (IsReplicaOf h log (without_place c j)) (sym done.1) (kept_dropped h log c k j b one.kept at))),
                subst (λ y. AtRefusal y ((d ≡ c) × (m ≡ k))) (sym done.2) tt,
              ),
              pair (sym is_d) (sym done.2),
            )

    pub drops_on : GoesOnAt d m a
    drops_on = go there_or_not
      where
        go : There ⊎ (branch_place number c.branches ≡ None) → GoesOnAt d m a
        go (inr e) = none_at d m a (none e)
        go (inl x) = let y = parent_of x.0 x.1 x.2 x.3 in (drop_at x.0 x.1 y.0 y.1 x.2 x.3 y.2).0

    pub drop_next : (q : Client) → slice_get w.lists.clients i ≡ Some q → IsBranchDropped w.lists i q number (record w.lists { clients = slice_set w.lists.clients i d }) a
    drop_next q at =
        let v = record w.lists { clients = slice_set w.lists.clients i d } in
        on_own q v a (λ (x : Client) b l. with_client w.lists i (drop_branch x number) ≡ (v, a)) at
        (λ j b l p place at x. ap (with_client w.lists i) (drop_at j b l p place at x).1) (λ e. let n = none e in (same_lists d n.0, n.2))
