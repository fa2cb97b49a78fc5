-- The world after a step of one client on a branch beside the main one.
use Rattle.st_edits.specs.InEffect.{schema_in_effect}
use Rattle.std.proofs.Common.{Err, IfSome, List, None, Ok, Option, Result, Some, [], ap, arith, length, refl, subst, suc, sym, zero, ℕ, ◌++◌, ◌+◌, ◌∙◌, ◌∷◌, ◌≡◌, ◌≢◌, ◌≤◌}
use Rattle.std.specs.List.{slice_get, slice_set}
use Rattle.std.specs.Option.{option_and_then}
use Rattle.st_doc.specs.Doc.{document_of}
use Rattle.st_edits.specs.Resolve.{need, resolve}
use Rattle.st_lists.specs.Open.{with_open}
use Rattle.st_heads.specs.declared.heads.Head.{Head}
use Rattle.st_ids.specs.Listing.{AreDistinct}
use Rattle.st_ids.specs.declared.names.Limit.{Limit}
use Rattle.st_ids.specs.declared.names.Place.{Place}
use Rattle.st_ids.specs.declared.names.Rev.{Rev}
use Rattle.st_lists.specs.Clients.{new_transaction, next_rev, with_edited, with_id}
use Rattle.st_lists.specs.Limits.{own_limit_passed}
use Rattle.st_lists.specs.Lines.{branch_line, branch_of, edited_on, line_of, on_branch, with_commit_on, with_transaction_on}
use Rattle.st_lists.specs.Names.{names_in, names_on, names_on_all, unsequenced}
use Rattle.st_lists.specs.declared.lists.Branch.{Branch}
use Rattle.st_lists.specs.declared.lists.Client.{Client}
use Rattle.st_lists.specs.declared.lists.Entry.{Entry}
use Rattle.st_lists.specs.declared.lists.Transaction.{Transaction}
use Rattle.st_marks.specs.Document.{Document}
use Rattle.st_marks.specs.Intent.{Fits}
use Rattle.st_marks.specs.declared.intents.Intent.{Intent}
use Rattle.st_script.specs.Header.{HeaderView, header_view}
use Rattle.st_script.specs.Steps.{edit_view}
use Rattle.st_script.specs.declared.answer.Answer.{Answer}
use Rattle.st_script.specs.declared.step.EditAct.{EditAct}
use Rattle.st_plain.proofs.Acting.{one_at, sound_goes, world_refused}
use Rattle.st_plain.proofs.AtBranch.{branch_line_of, heads_get, kept_changed, names_at}
use Rattle.st_plain.proofs.BranchKept.{IsStepOn, MakeWhole, abort_on, begin_on, commit_on, edit_on, need_on}
use Rattle.st_plain_branches.proofs.Branched.{changed_at, found_by}
use Rattle.st_world_laws.proofs.Everyone.{all_get, set_same}
use Rattle.st_plain.proofs.Everyone.{clients_of}
use Rattle.st_plain_schemas.specs.Schemas.{HasReading}
use Rattle.st_world_laws.proofs.Going.{GoesOn, LineGoes}
use Rattle.st_plain.proofs.Keeping.{AreOne}
use Rattle.st_plain.proofs.LineActs.{IsKeptLine, branch_head, line_can_take, line_commit_fits, line_doc_sound, line_edit_meant, line_kept, line_need_meant, line_numbers, line_whole_names}
use Rattle.st_world_laws.proofs.LineGoing.{line_goes}
use Rattle.st_world_laws.proofs.Meant.{IsMeaning, IsMeant}
use Rattle.st_world_laws.proofs.OnBranches.{changed_twice}
use Rattle.st_world_laws.proofs.Parts.{names_edited}
use Rattle.st_plain.proofs.Refusing.{refusal_as}
use Rattle.st_plain.proofs.Stepping.{start_of}
use Rattle.st_world_laws.specs.Worlds.{IsBranch, IsTransaction}
use Rattle.st_plain.specs.Replicas.{IsHeadOf, IsSound, IsSoundAfter}
use Rattle.st_world.specs.World.{AtRefusal, HasShown, IsAfterEdit, IsAfterNeed, IsJoined, abort, after_commit, begin, cells_given, commit, next_names, opening_document, with_beginning, with_new_on, word_of}
use Rattle.st_edits.specs.InEffect.{last_in_effect}
use Rattle.st_world.specs.declared.edit_word.EditWord.{EditWord}
use Rattle.st_heads.specs.declared.replica.Replica.{Replica}
use Rattle.st_plain.specs.declared.world.World.{World}
use Rattle.st_plain_edits.specs.BranchEdits.{CanEditOn, HasAbortedAt, HasBegunAt, HasBegunBy, HasBegunIn, HasCommittedAt, HasEditedAt, HasNeededAt, IsAbortedOn, IsChangedAt, IsCommittedOf, IsCommittedOn, IsNeededOn, IsOwnTaken, IsPartTaken, IsTakenOf, own_limit, shown_on}
use Rattle.st_heads.specs.Replicas.{IsAtBranch}
use Rattle.st_world.specs.Edits.{edit_of}
use Rattle.st_lists.specs.Limits.{names_limit}
use Rattle.st_plain_edits.specs.Taking.{CanTake}
use Rattle.st_tree.specs.declared.edit.EditFault.{EditFault}
use Rattle.st_world_laws.proofs.Effect.{schema_sound_on}

-- ## A client whose branch changes

abbrev pub changed : Client → ℕ → ℕ → Branch → Client
changed c ids j b = record c { ids = ids; branches = slice_set c.branches j b }

pair_is : {x y : Client} {a b : Answer} → x ≡ y → a ≡ b → ◌≡◌ {A = Client × Answer} (x, a) (y, b)
pair_is p q = λ i. (p i, q i)

module _ (c : Client) (j : ℕ) (b : Branch) (apart : AreDistinct (λ (x : Branch). x.number) c.branches) (there : slice_get c.branches j ≡ Some b) (other : b.number ≢ 0) where
  same_there : (ids : ℕ) (d : Branch) → ids ≡ c.ids → d ≡ b → changed c ids j d ≡ c
  same_there ids d e f =
      let branches : slice_set c.branches j d ≡ c.branches = ap (slice_set c.branches j) f ∙ set_same c.branches j b there in
      λ i. record c { ids = e i; branches = branches i }

  -- a change of the branch of its number is one at the place
  on_there : (n : ℕ) (f : Branch → Branch) → b.number ≡ n → on_branch n f c.branches ≡ slice_set c.branches j (f b)
  on_there n f e = subst (λ m. on_branch m f c.branches ≡ slice_set c.branches j (f b)) e (changed_at f c.branches j b apart there)

  committed_there : (N : Intent) → with_commit_on c b.number N ≡ changed c c.ids j (record b { own = b.own ++ N ∷ [] })
  committed_there N = go b.number refl
    where
      go : (n : ℕ) → b.number ≡ n → with_commit_on c n N ≡ changed c c.ids j (record b { own = b.own ++ N ∷ [] })
      go zero e = absurd (other e)
      go (suc n) e = ap (λ (bs : List Branch). record c { branches = bs }) (on_there (suc n) (λ x. record x { own = x.own ++ N ∷ [] }) e)

  -- a branch's commit leaves the ids to themselves
  id_there : (N : Intent) → with_commit_on (with_id c) b.number N ≡ record (with_commit_on c b.number N) { ids = c.ids + 1 }
  id_there N = go b.number refl
    where
      go : (n : ℕ) → b.number ≡ n → with_commit_on (with_id c) n N ≡ record (with_commit_on c n N) { ids = c.ids + 1 }
      go zero e = absurd (other e)
      go (suc n) e = refl

  turned_there : (o : Option Transaction) → with_transaction_on c b.number o ≡ changed c c.ids j (record b { transaction = o })
  turned_there o = go b.number refl
    where
      go : (n : ℕ) → b.number ≡ n → with_transaction_on c n o ≡ changed c c.ids j (record b { transaction = o })
      go zero e = absurd (other e)
      go (suc n) e = ap (λ (bs : List Branch). record c { branches = bs }) (on_there (suc n) (λ x. record x { transaction = o }) e)

  changed_as : (ids ids' : ℕ) (d d' : Branch) → ids' ≡ ids → d' ≡ d → changed c ids' j d' ≡ changed c ids j d
  changed_as ids ids' d d' e f = λ i. changed c (e i) j (f i)

  new_there : (d : Branch) (ids : ℕ) (word : EditWord) (N : Intent) (a : Answer) (o : Option Limit) → IsOwnTaken word (next_rev c) N o b c.ids d ids a → with_new_on c b.number word N o ≡ (changed c ids j d, a)
  new_there d ids word N a (Some over) is =
      let same = same_there ids d is.0.1 is.0.0 in
      pair_is (sym same) (sym is.1)
  new_there d ids word N a None is =
      let now : with_commit_on (with_id c) b.number N ≡ changed c ids j d =
      id_there N ∙ ap (λ (x : Client). record x { ids = c.ids + 1 }) (committed_there N) ∙ sym (changed_as (c.ids + 1) ids (record b { own = b.own ++ N ∷ [] }) d is.1 is.0) in
      pair_is now (sym is.2)

  joined_there : (d : Branch) (ids : ℕ) (word : EditWord) (t : Transaction) (M : Intent) (a : Answer) (o : Option Limit) → IsPartTaken word t M o b c.ids d ids a → IsJoined c b.number t word M o (changed c ids j d) a
  joined_there d ids word t M a (Some over) is = (same_there ids d is.0.1 is.0.0, is.1)
  joined_there d ids word t M a None is =
      let u = Some (with_edited t is.0 (length M.new) (cells_given word M)) in
      (is.0, is.1, changed_as c.ids ids (record b { transaction = u }) d is.3 is.2 ∙ sym (turned_there u), is.4)

  edited_there : (d : Branch) (ids : ℕ) (word : EditWord) (r : Result Intent EditFault) (a : Answer) → IsTakenOf word (next_names c b.transaction).rev r b.transaction (unsequenced c) b c.ids d ids a
      → IsAfterEdit c b.number (branch_line b) b.transaction word r (changed c ids j d) a
  edited_there d ids word r a is = go b.transaction r is
    where
      go : (o : Option Transaction) (r : Result Intent EditFault) → IsTakenOf word (next_names c o).rev r o (unsequenced c) b c.ids d ids a → IsAfterEdit c b.number (branch_line b) o word r (changed c ids j d) a
      go None (Err f) is = let same = same_there ids d is.0.1 is.0.0 in pair_is (sym same) (sym is.1)
      go None (Ok N) is = new_there d ids word N a (own_limit b (unsequenced c) N) is
      go (Some t) (Err f) is = (same_there ids d is.0.1 is.0.0, is.1)
      go (Some t) (Ok M) is = joined_there d ids word t M a (names_limit (unsequenced c) M) is

  needed_there : (d : Branch) (ids : ℕ) (r : Result Intent EditFault) (a : Answer) → IsNeededOn (next_names c b.transaction).rev r b.transaction (unsequenced c) b c.ids d ids a → IsAfterNeed c b.number b.transaction r (changed c ids j d) a
  needed_there d ids r a is = go b.transaction r is
    where
      go : (o : Option Transaction) (r : Result Intent EditFault) → IsNeededOn (next_names c o).rev r o (unsequenced c) b c.ids d ids a → IsAfterNeed c b.number o r (changed c ids j d) a
      go None r is = (same_there ids d is.0.1 is.0.0, is.1)
      go (Some t) (Err f) is = (same_there ids d is.0.1 is.0.0, is.1)
      go (Some t) (Ok M) is = joined_there d ids EditWord.Need t M a (names_limit (unsequenced c) M) is

  begun_there : (d : Branch) (ids : ℕ) (under : Rev) (a : Answer) → HasBegunIn (next_rev c) under b.transaction b c.ids d ids a → begin c b.number (branch_line b) b.transaction under ≡ (changed c ids j d, a)
  begun_there d ids under a is = go b.transaction is
    where
      by : (o : Option Limit) → HasBegunBy (next_rev c) under o b c.ids d ids a → with_beginning c b.number under o ≡ (changed c ids j d, a)
      by (Some over) is = let same = same_there ids d is.0.1 is.0.0 in pair_is (sym same) (sym is.1)
      by None is =
          let u = Some (new_transaction (next_rev c) under) in
          let now : record (with_transaction_on c b.number u) { ids = c.ids + 1 } ≡ changed c ids j d =
          ap (λ (x : Client). record x { ids = c.ids + 1 }) (turned_there u) ∙ sym (changed_as (c.ids + 1) ids (record b { transaction = u }) d is.1 is.0) in
          pair_is now (sym is.2)

      go : (o : Option Transaction) → HasBegunIn (next_rev c) under o b c.ids d ids a → begin c b.number (branch_line b) o under ≡ (changed c ids j d, a)
      go (Some t) is = let same = same_there ids d is.0.1 is.0.0 in pair_is (sym same) (sym is.1)
      go None is = by (own_limit_passed b.number (branch_line b) 1) is

  aborted_there : (d : Branch) (ids : ℕ) (a : Answer) → ids ≡ c.ids → IsAbortedOn b.transaction b d a → abort c b.number b.transaction ≡ (changed c ids j d, a)
  aborted_there d ids a same_ids is = go b.transaction is
    where
      go : (o : Option Transaction) → IsAbortedOn o b d a → abort c b.number o ≡ (changed c ids j d, a)
      go None is = let same = same_there ids d same_ids is.0 in pair_is (sym same) (sym is.1)
      go (Some t) is =
          let now : with_transaction_on c b.number None ≡ changed c ids j d = turned_there None ∙ sym (changed_as c.ids ids (record b { transaction = None }) d same_ids is.0) in
          pair_is now (sym is.1)

  -- a commit after the transaction has ended is one change at the place
  both_there : (J : Intent) → with_commit_on (with_transaction_on c b.number None) b.number J ≡ changed c c.ids j (record b { transaction = None; own = b.own ++ J ∷ [] })
  both_there J = go b.number refl
    where
      go : (n : ℕ) → b.number ≡ n → with_commit_on (with_transaction_on c n None) n J ≡ changed c c.ids j (record b { transaction = None; own = b.own ++ J ∷ [] })
      go zero e = absurd (other e)
      go (suc n) e =
          ap (λ (bs : List Branch). record c { branches = bs })
          (changed_twice (suc n) (λ x. record x { transaction = None }) (λ x. record x { own = x.own ++ J ∷ [] }) (λ x. record x { transaction = None; own = x.own ++ J ∷ [] }) (λ x. refl) (λ x. refl) c.branches
          ∙ on_there (suc n) (λ x. record x { transaction = None; own = x.own ++ J ∷ [] }) e)

  committed_of : (d : Branch) (ids : ℕ) (rev : Rev) (a : Answer) (o : Option Intent) → ids ≡ c.ids → IsCommittedOf rev o (record b { transaction = None }) d a → after_commit (with_transaction_on c b.number None) b.number rev o ≡ (changed c ids j d, a)
  committed_of d ids rev a None same_ids is =
      let now : with_transaction_on c b.number None ≡ changed c ids j d = turned_there None ∙ sym (changed_as c.ids ids (record b { transaction = None }) d same_ids is.0) in
      pair_is now (sym is.1)
  committed_of d ids rev a (Some J) same_ids is =
      let now : with_commit_on (with_transaction_on c b.number None) b.number J ≡ changed c ids j d = both_there J ∙ sym (changed_as c.ids ids (record b { transaction = None; own = b.own ++ J ∷ [] }) d same_ids is.0) in
      pair_is now (sym is.1)

  ended_there : (d : Branch) (ids : ℕ) (a : Answer) → ids ≡ c.ids → IsCommittedOn b.transaction b d a → commit c b.number b.transaction ≡ (changed c ids j d, a)
  ended_there d ids a same_ids is = go b.transaction is
    where
      go : (o : Option Transaction) → IsCommittedOn o b d a → commit c b.number o ≡ (changed c ids j d, a)
      go None is = let same = same_there ids d same_ids is.0 in pair_is (sym same) (sym is.1)
      go (Some t) is = committed_of d ids t.rev a t.joined same_ids is

-- ## A branch of a client of the world

module _ (w : World) (i : ℕ) (c : Client) (k : Replica) (s : IsSound w) (at_c : slice_get w.lists.clients i ≡ Some c) (at_k : slice_get w.kept i ≡ Some k)
    (number : ℕ) (other : number ≢ 0) (j : ℕ) (b : Branch) (g : Head) (at_b : IsAtBranch c k number j b g) where
  abbrev h : HeaderView
  h = header_view w.header

  abbrev log : List Entry
  log = w.lists.log

  one : AreOne h log c k
  one = one_at w i c k s at_c at_k

  found : (branch_of c number ≡ Some b) × (b.number ≡ number)
  found =
      let r = found_by number c.branches j at_b.found in
      let same = some_is (sym r.2 ∙ at_b.branch) in
      (r.1 ∙ ap (λ (x : Branch). Some x) same, ap (λ (x : Branch). x.number) (sym same) ∙ r.3)
    where
      some_is : {x y : Branch} → Some x ≡ Some y → x ≡ y
      some_is e = cc

  numbered : b.number ≢ 0
  numbered e = other (sym found.1 ∙ e)

  pub line_is : line_of c number ≡ Some (branch_line b)
  line_is = branch_line_of c number b other found.0

  head_is : IsHeadOf (opening_document h) log b g
  head_is = heads_get (opening_document h) log c.branches k.branches j b g one.kept.branches at_b.branch at_b.kept

  -- its line, and the head that is kept of it
  kept_is : IsKeptLine h log c (branch_line b) g
  kept_is = line_kept h (start_of w w.steps s) log c one.client number (branch_line b) line_is g
      (schema_sound_on h (start_of w w.steps s) (HasReading w.schemas) log w.lists.clients s.schema (clients_of h log w.lists.clients w.kept s.kept) i c at_c number (branch_line b) line_is (shown_on b g) (document_of g.doc, branch_head (opening_document h) log b g head_is, refl))
      s.few_names (branch_head (opening_document h) log b g head_is) head_is.edited

  goes_is : LineGoes h (start_of w w.steps s) (HasReading w.schemas) log w.lists.clients i c number (branch_line b)
  goes_is = line_goes h (start_of w w.steps s) (HasReading w.schemas) log w.lists.clients s.sessions (clients_of h log w.lists.clients w.kept s.kept) s.few_names s.schema i c at_c number (branch_line b) line_is

  pub shown_is : HasShown (opening_document h) log (branch_line b) (shown_on b g)
  shown_is = (document_of g.doc, kept_is.head, refl)

  pub can_edit : CanEditOn c b g
  can_edit = record {
    few = (all_get (IsBranch h log c) c.branches j b one.client.branches.each at_b.branch).few;
    sound = line_doc_sound h (start_of w w.steps s) log c (branch_line b) g kept_is;
    edited = head_is.edited;
    left = line_numbers h (start_of w w.steps s) log c (branch_line b) g kept_is;
  }

  pub commit_fits : IfSome (edited_on (branch_line b)) (Fits (document_of g.doc))
  commit_fits = line_commit_fits h (start_of w w.steps s) log c (branch_line b) g kept_is

  edit_meant : (e : EditAct) → IsMeaning (shown_on b g) (next_names c b.transaction) (word_of (edit_view e)) (resolve (shown_on b g) (schema_in_effect (shown_on b g)) (next_names c b.transaction) (edit_of e))
  edit_meant e = line_edit_meant h (start_of w w.steps s) log c (branch_line b) g kept_is e

  need_meant : (path : List Place) → IsMeaning (shown_on b g) (next_names c b.transaction) EditWord.Need (need (shown_on b g) (next_names c b.transaction) path)
  need_meant path = line_need_meant h (start_of w w.steps s) log c (branch_line b) g kept_is path

  -- what an edit and a need mean can be taken in
  pub edit_can : (e : EditAct) (N : Intent) → resolve (shown_on b g) (schema_in_effect (shown_on b g)) (next_names c b.transaction) (edit_of e) ≡ Ok N → CanTake g b.transaction (word_of (edit_view e)) N
  edit_can e N is = line_can_take h (start_of w w.steps s) log c (branch_line b) g kept_is (word_of (edit_view e)) (resolve (shown_on b g) (schema_in_effect (shown_on b g)) (next_names c b.transaction) (edit_of e)) (edit_meant e) N is

  pub need_can : (path : List Place) (N : Intent) → need (shown_on b g) (next_names c b.transaction) path ≡ Ok N → CanTake g b.transaction EditWord.Need N
  need_can path N is = line_can_take h (start_of w w.steps s) log c (branch_line b) g kept_is EditWord.Need (need (shown_on b g) (next_names c b.transaction) path) (need_meant path) N is

  -- the names of the branch are counted
  names_there : names_on b ≤ k.names
  names_there =
      let r = names_at c.branches j b at_b.branch in
      sum k.names (names_edited (option_and_then (λ (t : Transaction). t.joined) c.transaction) + names_in c.pending) (names_on_all c.branches) (names_on b) r.0 one.kept.names r.1
    where
      sum : (k x all b rest : ℕ) → k ≡ x + all → all ≡ b + rest → b ≤ k
      sum k x all b rest e f = omega (arith, e, f)

  pub counted : names_edited (edited_on (branch_line b)) ≤ k.names
  counted = sum (names_edited (edited_on (branch_line b))) (names_in b.own) k.names names_there
    where
      sum : (x own k : ℕ) → x + own ≤ k → x ≤ k
      sum x own k e = omega (arith, e)

  -- the parts that an edit may mean make all of their names
  whole_is : (word : EditWord) (r : Result Intent EditFault) → IsMeaning (shown_on b g) (next_names c b.transaction) word r → MakeWhole (opening_document h) log b g head_is c.ids k.names r
  whole_is word r means t M J open_at is with_part =
      line_whole_names h (start_of w w.steps s) log c (branch_line b) g kept_is t open_at (transaction_is t open_at) word M J
      (subst (λ (o : Option Transaction). IsMeant (with_open (document_of g.doc) (option_and_then (λ (x : Transaction). x.joined) o)) (next_names c o) word M) open_at (means M is)) with_part
    where
      transaction_is : (t : Transaction) → b.transaction ≡ Some t → IsTransaction h log (branch_line b) c t
      transaction_is t open_at = subst (λ (o : Option Transaction). IfSome o (IsTransaction h log (branch_line b) c)) open_at kept_is.transaction

  -- ## After a step

  abbrev Next : Client → Replica → Type 0
  Next d l = IsSoundAfter (w.steps + 1) (record w { lists = record w.lists { clients = slice_set w.lists.clients i d }; kept = slice_set w.kept i l })

  abbrev Stays : Client → Replica → Answer → Type 0
  Stays d l a = AtRefusal a (◌≡◌ {A = World} (record w { lists = record w.lists { clients = slice_set w.lists.clients i d }; kept = slice_set w.kept i l }) w)

  abbrev Goes : Client → Type 0
  Goes d = GoesOn h (start_of w w.steps s) (HasReading w.schemas) log w.lists.clients i c d

  abbrev Step : Branch → Client → Head → Replica → Answer → Type 0
  Step x d y l a = IsStepOn (opening_document h) log b g head_is c.ids k.names x d.ids y l.names a

  step_sound : (d : Client) (l : Replica) (x : Branch) (y : Head) (a : Answer) → IsChangedAt c k j x y d l → Step x d y l a → Goes d → Next d l
  step_sound d l x y a changes step goes = sound_goes w i c k s at_c at_k d l goes (kept_changed h log c d k l j b x y one.kept at_b.branch changes step.head step.names)

  step_same : (d : Client) (l : Replica) (x : Branch) (y : Head) → IsChangedAt c k j x y d l → (x ≡ b) × (d.ids ≡ c.ids) × (y ≡ g) × (l.names ≡ k.names) → (d ≡ c) × (l ≡ k)
  step_same d l x y changes e =
      let heads : slice_set k.branches j y ≡ k.branches = ap (slice_set k.branches j) e.2 ∙ set_same k.branches j g at_b.kept in
      let names : l.names ≡ k.names = e.3 in
      let here : ◌≡◌ {A = Replica} (record k { branches = slice_set k.branches j y; names = l.names }) k = λ n. record k { branches = heads n; names = names n } in
      (changes.0 ∙ same_there c j b one.client.branches.numbers at_b.branch numbered d.ids x e.1 e.0, changes.1 ∙ here)

  step_stays : (d : Client) (l : Replica) (x : Branch) (y : Head) (a : Answer) → IsChangedAt c k j x y d l → Step x d y l a → Stays d l a
  step_stays d l x y a changes step = world_refused w i c d k l a at_c at_k (refusal_as a _ _ (step_same d l x y changes) step.refused)

  -- what the client is then, by the number
  as_number : (P : ℕ → Client → Type 0) (d : Client) (x : Branch) → d ≡ changed c d.ids j x → P b.number (changed c d.ids j x) → P number d
  as_number P d x e p = subst (λ n. P n d) found.1 (subst (P b.number) (sym e) p)

  names_is : (P : ℕ → Type 0) → P k.names → P (unsequenced c)
  names_is P p = subst P one.kept.names p

  pub edited_as : (e : EditAct) (d : Client) (l : Replica) (a : Answer) → HasEditedAt c k j b g (word_of (edit_view e)) (resolve (shown_on b g) (schema_in_effect (shown_on b g)) (next_names c b.transaction) (edit_of e)) d l a
      → IsAfterEdit c number (branch_line b) b.transaction (word_of (edit_view e)) (resolve (shown_on b g) (schema_in_effect (shown_on b g)) (next_names c b.transaction) (edit_of e)) d a
  edited_as e d l a done =
      let r = resolve (shown_on b g) (schema_in_effect (shown_on b g)) (next_names c b.transaction) (edit_of e) in
      let word = word_of (edit_view e) in
      as_number (λ n x. IsAfterEdit c n (branch_line b) b.transaction word r x a) d done.0 done.2.0
      (edited_there c j b one.client.branches.numbers at_b.branch numbered done.0 d.ids word r a (names_is (λ n. IsTakenOf word (next_names c b.transaction).rev r b.transaction n b c.ids done.0 d.ids a) done.3))

  pub needed_as : (path : List Place) (d : Client) (l : Replica) (a : Answer) → HasNeededAt c k j b g (need (shown_on b g) (next_names c b.transaction) path) d l a
      → IsAfterNeed c number b.transaction (need (shown_on b g) (next_names c b.transaction) path) d a
  needed_as path d l a done =
      let r = need (shown_on b g) (next_names c b.transaction) path in
      as_number (λ n x. IsAfterNeed c n b.transaction r x a) d done.0 done.2.0
      (needed_there c j b one.client.branches.numbers at_b.branch numbered done.0 d.ids r a (names_is (λ n. IsNeededOn (next_names c b.transaction).rev r b.transaction n b c.ids done.0 d.ids a) done.3))

  -- a transaction begins under the schema that is last in effect in the branch's document, which is the one that is shown then
  pub begun_as : (d : Client) (a : Answer) → HasBegunAt c j b g d a → begin c number (branch_line b) b.transaction (last_in_effect (shown_on b g)) ≡ (d, a)
  begun_as d a done =
      sym (go b.transaction)
      ∙ as_number (λ n x. begin c n (branch_line b) b.transaction (last_in_effect (document_of g.doc)) ≡ (x, a)) d done.0 done.1 (begun_there c j b one.client.branches.numbers at_b.branch numbered done.0 d.ids (last_in_effect (document_of g.doc)) a done.2)
    where
      D : Document
      D = document_of g.doc

      go : (o : Option Transaction) → begin c number (branch_line b) o (last_in_effect D) ≡ begin c number (branch_line b) o (last_in_effect (with_open D (option_and_then (λ (t : Transaction). t.joined) o)))
      go None = refl
      go (Some t) = refl

  pub committed_as : (d : Client) (l : Replica) (a : Answer) → HasCommittedAt c k j b g d l a → commit c number b.transaction ≡ (d, a)
  committed_as d l a done = as_number (λ n x. commit c n b.transaction ≡ (x, a)) d done.0 done.2.0 (ended_there c j b one.client.branches.numbers at_b.branch numbered done.0 d.ids a done.5 done.3)

  pub aborted_as : (d : Client) (l : Replica) (a : Answer) → HasAbortedAt c k j b g d l a → abort c number b.transaction ≡ (d, a)
  aborted_as d l a done = as_number (λ n x. abort c n b.transaction ≡ (x, a)) d done.0 done.2.0 (aborted_there c j b one.client.branches.numbers at_b.branch numbered done.0 d.ids a done.5 done.3)

  -- ## The world goes on

  module _ (e : EditAct) (d : Client) (l : Replica) (a : Answer) (done : HasEditedAt c k j b g (word_of (edit_view e)) (resolve (shown_on b g) (schema_in_effect (shown_on b g)) (next_names c b.transaction) (edit_of e)) d l a) where
    edit_step : Step done.0 d done.1 l a
    edit_step =
        let r = resolve (shown_on b g) (schema_in_effect (shown_on b g)) (next_names c b.transaction) (edit_of e) in
        edit_on (opening_document h) log b g head_is c.ids k.names done.0 d.ids done.1 l.names a (word_of (edit_view e)) (next_names c b.transaction).rev r (whole_is (word_of (edit_view e)) r (edit_meant e)) done.3 done.4

    pub edit_sound : Next d l
    edit_sound =
        let r = resolve (shown_on b g) (schema_in_effect (shown_on b g)) (next_names c b.transaction) (edit_of e) in
        step_sound d l done.0 done.1 a done.2 edit_step (goes_is.edits d (shown_on b g) (word_of (edit_view e)) r a shown_is (edit_meant e) (edited_as e d l a done))

    pub edit_stays : Stays d l a
    edit_stays = step_stays d l done.0 done.1 a done.2 edit_step

  module _ (path : List Place) (d : Client) (l : Replica) (a : Answer) (done : HasNeededAt c k j b g (need (shown_on b g) (next_names c b.transaction) path) d l a) where
    need_step : Step done.0 d done.1 l a
    need_step =
        let r = need (shown_on b g) (next_names c b.transaction) path in
        need_on (opening_document h) log b g head_is c.ids k.names done.0 d.ids done.1 l.names a (next_names c b.transaction).rev r (whole_is EditWord.Need r (need_meant path)) done.3 done.4

    pub need_sound : Next d l
    need_sound =
        let r = need (shown_on b g) (next_names c b.transaction) path in
        step_sound d l done.0 done.1 a done.2 need_step (goes_is.needs d (shown_on b g) r a shown_is (need_meant path) (needed_as path d l a done))

    pub need_stays : Stays d l a
    need_stays = step_stays d l done.0 done.1 a done.2 need_step

  module _ (d : Client) (a : Answer) (done : HasBegunAt c j b g d a) where
    begin_step : Step done.0 d g k a
    begin_step = begin_on (opening_document h) log b g head_is c.ids k.names done.0 d.ids a (next_rev c) (last_in_effect (document_of g.doc)) done.2

    begin_changes : IsChangedAt c k j done.0 g d k
    begin_changes =
        let heads : k.branches ≡ slice_set k.branches j g = sym (set_same k.branches j g at_b.kept) in
        (done.1, λ n. record k { branches = heads n })

    pub begin_sound : IsSoundAfter (w.steps + 1) (record w { lists = record w.lists { clients = slice_set w.lists.clients i d } })
    begin_sound =
        let now = step_sound d k done.0 g a begin_changes begin_step (goes_is.begins d (shown_on b g) a shown_is (begun_as d a done)) in
        subst (λ (ks : List Replica). IsSoundAfter (w.steps + 1) (record w { lists = record w.lists { clients = slice_set w.lists.clients i d }; kept = ks })) (set_same w.kept i k at_k) now

    pub begin_stays : AtRefusal a (◌≡◌ {A = World} (record w { lists = record w.lists { clients = slice_set w.lists.clients i d } }) w)
    begin_stays = refusal_as a _ _ (λ e.
        let same = step_same d k done.0 g begin_changes e in
        let clients : slice_set w.lists.clients i d ≡ w.lists.clients = ap (slice_set w.lists.clients i) same.0 ∙ set_same w.lists.clients i c at_c in
        λ n. record w { lists = record w.lists { clients = clients n } }) begin_step.refused

  module _ (d : Client) (l : Replica) (a : Answer) (done : HasCommittedAt c k j b g d l a) where
    commit_step : Step done.0 d done.1 l a
    commit_step = commit_on (opening_document h) log b g head_is c.ids k.names done.0 d.ids done.1 l.names a done.5 done.6 done.3 done.4

    pub commit_sound : Next d l
    commit_sound = step_sound d l done.0 done.1 a done.2 commit_step (goes_is.commits d a (committed_as d l a done))

    pub commit_stays : Stays d l a
    commit_stays = step_stays d l done.0 done.1 a done.2 commit_step

  module _ (d : Client) (l : Replica) (a : Answer) (done : HasAbortedAt c k j b g d l a) where
    abort_step : Step done.0 d done.1 l a
    abort_step = abort_on (opening_document h) log b g head_is c.ids k.names done.0 d.ids done.1 l.names a done.5 names_there done.3 done.4

    pub abort_sound : Next d l
    abort_sound = step_sound d l done.0 done.1 a done.2 abort_step (goes_is.aborts d a (aborted_as d l a done))

    pub abort_stays : Stays d l a
    abort_stays = step_stays d l done.0 done.1 a done.2 abort_step
