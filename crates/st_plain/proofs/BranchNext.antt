-- The next world after an edit on a branch beside the main one, by what the branch's functions say of it.
use Rattle.std.proofs.Common.{List, None, Option, Some, ap, inl, inr, refl, subst, suc, sym, zero, ℕ, ◌+◌, ◌∙◌, ◌≡◌, ◌≢◌, ◌⊎◌}
use Rattle.std.specs.List.{slice_get, slice_set}
use Rattle.st_edits.specs.Resolve.{need, resolve}
use Rattle.st_heads.specs.declared.heads.Head.{Head}
use Rattle.st_ids.specs.declared.names.Place.{Place}
use Rattle.st_lists.specs.Lines.{branch_place}
use Rattle.st_heads.specs.Replicas.{IsAtBranch}
use Rattle.st_lists.specs.Lines.{Line, branch_line, line_of}
use Rattle.st_lists.specs.declared.lists.Branch.{Branch}
use Rattle.st_lists.specs.declared.lists.Client.{Client}
use Rattle.st_lists.specs.declared.lists.Entry.{Entry}
use Rattle.st_script.specs.Header.{HeaderView, header_view}
use Rattle.st_script.specs.Steps.{edit, edit_view}
use Rattle.st_script.specs.declared.answer.Answer.{Answer}
use Rattle.st_script.specs.declared.step.EditAct.{EditAct}
use Rattle.st_plain.proofs.Acting.{one_at, same_world}
use Rattle.st_plain.proofs.AtBranch.{heads_some}
use Rattle.st_plain.proofs.BranchActs.{begun_as, abort_sound, abort_stays, aborted_as, begin_sound, begin_stays, commit_sound, commit_stays, committed_as, edit_sound, edit_stays, edited_as, need_sound, need_stays, needed_as, shown_is}
use Rattle.st_plain_branches.proofs.Branched.{found_at, found_by}
use Rattle.st_plain.proofs.Choosing.{next_edit}
use Rattle.st_world_laws.proofs.Everyone.{set_same}
use Rattle.st_plain.proofs.Keeping.{AreOne}
use Rattle.st_world_laws.proofs.Lookup.{line_there}
use Rattle.st_plain.proofs.Stepping.{sound_later}
use Rattle.st_edits.specs.InEffect.{schema_in_effect}
use Rattle.st_plain.specs.Replicas.{IsSound, IsSoundAfter}
use Rattle.st_world.specs.World.{AtRefusal, IsActOf, IsAfterEdit, IsBegun, IsDoneIn, IsNeeded, abort, commit, next_names, opening_document, with_client, word_of}
use Rattle.st_heads.specs.declared.replica.Replica.{Replica}
use Rattle.st_plain.specs.declared.world.World.{World}
use Rattle.st_plain_edits.specs.BranchEdits.{HasAbortedAt, HasBegunAt, HasCommittedAt, HasEditedAt, HasNeededAt, IsNoBranch, shown_on}
use Rattle.st_world.specs.Edits.{edit_of}
use Rattle.st_script.specs.Steps as step

same_some : {X : Type 0} (x y : X) → Some x ≡ Some y → x ≡ y
same_some x y e = cc

-- where there is no branch nothing changes
module _ (w : World) (i : ℕ) (c : Client) (k : Replica) (s : IsSound w) (at_c : slice_get w.lists.clients i ≡ Some c) (at_k : slice_get w.kept i ≡ Some k) (d : Client) (m : Replica) (a : Answer) (none : IsNoBranch c k d m a) where
  same_now : ◌≡◌ {A = World} (record w { lists = record w.lists { clients = slice_set w.lists.clients i d }; kept = slice_set w.kept i m }) w
  same_now = same_world w i c d k m at_c at_k (none.0, none.1)

  pub none_sound : IsSoundAfter (w.steps + 1) (record w { lists = record w.lists { clients = slice_set w.lists.clients i d }; kept = slice_set w.kept i m })
  none_sound = subst (IsSoundAfter (w.steps + 1)) (sym same_now) (sound_later w.steps w s)

  pub none_stays : AtRefusal a (◌≡◌ {A = World} (record w { lists = record w.lists { clients = slice_set w.lists.clients i d }; kept = slice_set w.kept i m }) w)
  none_stays = subst (λ x. AtRefusal x (◌≡◌ {A = World} (record w { lists = record w.lists { clients = slice_set w.lists.clients i d }; kept = slice_set w.kept i m }) w)) (sym none.2) same_now

module _ (w : World) (i : ℕ) (c : Client) (k : Replica) (s : IsSound w) (at_c : slice_get w.lists.clients i ≡ Some c) (at_k : slice_get w.kept i ≡ Some k) (number : ℕ) (other : number ≢ 0) where
  abbrev h : HeaderView
  h = header_view w.header

  abbrev log : List Entry
  log = w.lists.log

  one : AreOne h log c k
  one = one_at w i c k s at_c at_k

  abbrev There : Type 0
  There = (j : ℕ) × (b : Branch) × (g : Head) × IsAtBranch c k number j b g

  -- the branch of the number is at its place, or there is none
  there_or_not : There ⊎ (branch_place number c.branches ≡ None)
  there_or_not = go (branch_place number c.branches) refl
    where
      go : (o : Option ℕ) → branch_place number c.branches ≡ o → There ⊎ (branch_place number c.branches ≡ None)
      go None e = inr e
      go (Some j) e =
          let b = found_by number c.branches j e in
          let g = heads_some (opening_document h) log c.branches k.branches j b.0 one.kept.branches b.2 in
          inl (j, b.0, g.0, record { found = e; branch = b.2; kept = g.1 })

  -- it is there where the number has a line
  line_branch : (l : Line) → line_of c number ≡ Some l → (j : ℕ) × (b : Branch) × (g : Head) × IsAtBranch c k number j b g × (branch_line b ≡ l)
  line_branch l line = go number other refl line
    where
      go : (n : ℕ) → n ≢ 0 → number ≡ n → line_of c n ≡ Some l → (j : ℕ) × (b : Branch) × (g : Head) × IsAtBranch c k number j b g × (branch_line b ≡ l)
      go zero other e line = absurd (other refl)
      go (suc n) other e line =
          let b = line_there c n l line in
          let r = found_at (suc n) c.branches b.0 b.1 in
          let g = heads_some (opening_document h) log c.branches k.branches r.0 b.0 one.kept.branches r.2 in
          (r.0, b.0, g.0, record { found = ap (λ x. branch_place x c.branches) e ∙ r.1; branch = r.2; kept = g.1 }, b.2)

  abbrev Next : Client → Replica → Type 0
  Next d m = IsSoundAfter (w.steps + 1) (record w { lists = record w.lists { clients = slice_set w.lists.clients i d }; kept = slice_set w.kept i m })

  abbrev Stays : Client → Replica → Answer → Type 0
  Stays d m a = AtRefusal a (◌≡◌ {A = World} (record w { lists = record w.lists { clients = slice_set w.lists.clients i d }; kept = slice_set w.kept i m }) w)

  -- what a branch does where it is, the client at the place does on its line
  on_same : (q : Client) (l : Line) (P : Client → Line → Type 0) → slice_get w.lists.clients i ≡ Some q → line_of q number ≡ Some l → ((j : ℕ) (b : Branch) (g : Head) → IsAtBranch c k number j b g → P c (branch_line b)) → P q l
  on_same q l P at line does =
      let same : c ≡ q = same_some c q (sym at_c ∙ at) in
      let x = line_branch l (subst (λ (y : Client). line_of y number ≡ Some l) (sym same) line) in
      subst (λ (y : Client). P y l) same (subst (P c) x.4 (does x.0 x.1 x.2 x.3))

  module _ (e : EditAct) (d : Client) (m : Replica) (a : Answer)
      (there : (j : ℕ) (b : Branch) (g : Head) → IsAtBranch c k number j b g → HasEditedAt c k j b g (word_of (edit_view e)) (resolve (shown_on b g) (schema_in_effect (shown_on b g)) (next_names c b.transaction) (edit_of e)) d m a)
      (absent : branch_place number c.branches ≡ None → IsNoBranch c k d m a) where
    pub edit_next : (q : Client) (l : Line) → slice_get w.lists.clients i ≡ Some q → line_of q number ≡ Some l → IsActOf h w.lists (edit (edit_view e)) i q number l (record w.lists { clients = slice_set w.lists.clients i d }) a
    edit_next q l at line =
        let v = record w.lists { clients = slice_set w.lists.clients i d } in
        next_edit h w.lists i q number l v a e
        (on_same q l (λ (x : Client) (y : Line). IsDoneIn h w.lists i y (λ D. IsAfterEdit x number y y.transaction (word_of (edit_view e)) (resolve D (schema_in_effect D) (next_names x y.transaction) (edit_of e))) v a) at line
        (λ j b g x. (shown_on b g, d, shown_is w i c k s at_c at_k number other j b g x, edited_as w i c k s at_c at_k number other j b g x e d m a (there j b g x), refl)))

    pub edit_sound_on : Next d m
    edit_sound_on = go there_or_not
      where
        go : There ⊎ (branch_place number c.branches ≡ None) → Next d m
        go (inl x) = edit_sound w i c k s at_c at_k number other x.0 x.1 x.2 x.3 e d m a (there x.0 x.1 x.2 x.3)
        go (inr none) = none_sound w i c k s at_c at_k d m a (absent none)

    pub edit_stays_on : Stays d m a
    edit_stays_on = go there_or_not
      where
        go : There ⊎ (branch_place number c.branches ≡ None) → Stays d m a
        go (inl x) = edit_stays w i c k s at_c at_k number other x.0 x.1 x.2 x.3 e d m a (there x.0 x.1 x.2 x.3)
        go (inr none) = none_stays w i c k s at_c at_k d m a (absent none)

  module _ (path : List Place) (d : Client) (m : Replica) (a : Answer)
      (there : (j : ℕ) (b : Branch) (g : Head) → IsAtBranch c k number j b g → HasNeededAt c k j b g (need (shown_on b g) (next_names c b.transaction) path) d m a)
      (absent : branch_place number c.branches ≡ None → IsNoBranch c k d m a) where
    pub need_next : (q : Client) (l : Line) → slice_get w.lists.clients i ≡ Some q → line_of q number ≡ Some l → IsActOf h w.lists (step.need path) i q number l (record w.lists { clients = slice_set w.lists.clients i d }) a
    need_next q l at line =
        let v = record w.lists { clients = slice_set w.lists.clients i d } in
        on_same q l (λ (x : Client) (y : Line). IsNeeded h w.lists i x number y path v a) at line
        (λ j b g x. (shown_on b g, d, shown_is w i c k s at_c at_k number other j b g x, needed_as w i c k s at_c at_k number other j b g x path d m a (there j b g x), refl))

    pub need_sound_on : Next d m
    need_sound_on = go there_or_not
      where
        go : There ⊎ (branch_place number c.branches ≡ None) → Next d m
        go (inl x) = need_sound w i c k s at_c at_k number other x.0 x.1 x.2 x.3 path d m a (there x.0 x.1 x.2 x.3)
        go (inr none) = none_sound w i c k s at_c at_k d m a (absent none)

    pub need_stays_on : Stays d m a
    need_stays_on = go there_or_not
      where
        go : There ⊎ (branch_place number c.branches ≡ None) → Stays d m a
        go (inl x) = need_stays w i c k s at_c at_k number other x.0 x.1 x.2 x.3 path d m a (there x.0 x.1 x.2 x.3)
        go (inr none) = none_stays w i c k s at_c at_k d m a (absent none)

  module _ (d : Client) (a : Answer) (there : (j : ℕ) (b : Branch) (g : Head) → IsAtBranch c k number j b g → HasBegunAt c j b g d a) (absent : branch_place number c.branches ≡ None → IsNoBranch c k d k a) where
    pub begin_next : (q : Client) (l : Line) → slice_get w.lists.clients i ≡ Some q → line_of q number ≡ Some l → IsActOf h w.lists step.begin i q number l (record w.lists { clients = slice_set w.lists.clients i d }) a
    begin_next q l at line =
        let v = record w.lists { clients = slice_set w.lists.clients i d } in
        on_same q l (λ (x : Client) (y : Line). IsBegun h w.lists i x number y v a) at line
        (λ j b g x. (shown_on b g, d, shown_is w i c k s at_c at_k number other j b g x, begun_as w i c k s at_c at_k number other j b g x d a (there j b g x), refl))

    pub begin_sound_on : IsSoundAfter (w.steps + 1) (record w { lists = record w.lists { clients = slice_set w.lists.clients i d } })
    begin_sound_on = go there_or_not
      where
        go : There ⊎ (branch_place number c.branches ≡ None) → IsSoundAfter (w.steps + 1) (record w { lists = record w.lists { clients = slice_set w.lists.clients i d } })
        go (inl x) = begin_sound w i c k s at_c at_k number other x.0 x.1 x.2 x.3 d a (there x.0 x.1 x.2 x.3)
        go (inr none) =
            subst (λ (ks : List Replica). IsSoundAfter (w.steps + 1) (record w { lists = record w.lists { clients = slice_set w.lists.clients i d }; kept = ks })) (set_same w.kept i k at_k) (none_sound w i c k s at_c at_k d k a (absent none))

    pub begin_stays_on : AtRefusal a (◌≡◌ {A = World} (record w { lists = record w.lists { clients = slice_set w.lists.clients i d } }) w)
    begin_stays_on = go there_or_not
      where
        go : There ⊎ (branch_place number c.branches ≡ None) → AtRefusal a (◌≡◌ {A = World} (record w { lists = record w.lists { clients = slice_set w.lists.clients i d } }) w)
        go (inl x) = begin_stays w i c k s at_c at_k number other x.0 x.1 x.2 x.3 d a (there x.0 x.1 x.2 x.3)
        go (inr none) =
            subst (λ (ks : List Replica). AtRefusal a (◌≡◌ {A = World} (record w { lists = record w.lists { clients = slice_set w.lists.clients i d }; kept = ks }) w)) (set_same w.kept i k at_k) (none_stays w i c k s at_c at_k d k a (absent none))

  module _ (d : Client) (m : Replica) (a : Answer) (there : (j : ℕ) (b : Branch) (g : Head) → IsAtBranch c k number j b g → HasCommittedAt c k j b g d m a) (absent : branch_place number c.branches ≡ None → IsNoBranch c k d m a) where
    pub commit_next : (q : Client) (l : Line) → slice_get w.lists.clients i ≡ Some q → line_of q number ≡ Some l → IsActOf h w.lists step.commit i q number l (record w.lists { clients = slice_set w.lists.clients i d }) a
    commit_next q l at line =
        let v = record w.lists { clients = slice_set w.lists.clients i d } in
        on_same q l (λ (x : Client) (y : Line). with_client w.lists i (commit x number y.transaction) ≡ (v, a)) at line
        (λ j b g x. ap (with_client w.lists i) (committed_as w i c k s at_c at_k number other j b g x d m a (there j b g x)))

    pub commit_sound_on : Next d m
    commit_sound_on = go there_or_not
      where
        go : There ⊎ (branch_place number c.branches ≡ None) → Next d m
        go (inl x) = commit_sound w i c k s at_c at_k number other x.0 x.1 x.2 x.3 d m a (there x.0 x.1 x.2 x.3)
        go (inr none) = none_sound w i c k s at_c at_k d m a (absent none)

    pub commit_stays_on : Stays d m a
    commit_stays_on = go there_or_not
      where
        go : There ⊎ (branch_place number c.branches ≡ None) → Stays d m a
        go (inl x) = commit_stays w i c k s at_c at_k number other x.0 x.1 x.2 x.3 d m a (there x.0 x.1 x.2 x.3)
        go (inr none) = none_stays w i c k s at_c at_k d m a (absent none)

  module _ (d : Client) (m : Replica) (a : Answer) (there : (j : ℕ) (b : Branch) (g : Head) → IsAtBranch c k number j b g → HasAbortedAt c k j b g d m a) (absent : branch_place number c.branches ≡ None → IsNoBranch c k d m a) where
    pub abort_next : (q : Client) (l : Line) → slice_get w.lists.clients i ≡ Some q → line_of q number ≡ Some l → IsActOf h w.lists step.abort i q number l (record w.lists { clients = slice_set w.lists.clients i d }) a
    abort_next q l at line =
        let v = record w.lists { clients = slice_set w.lists.clients i d } in
        on_same q l (λ (x : Client) (y : Line). with_client w.lists i (abort x number y.transaction) ≡ (v, a)) at line
        (λ j b g x. ap (with_client w.lists i) (aborted_as w i c k s at_c at_k number other j b g x d m a (there j b g x)))

    pub abort_sound_on : Next d m
    abort_sound_on = go there_or_not
      where
        go : There ⊎ (branch_place number c.branches ≡ None) → Next d m
        go (inl x) = abort_sound w i c k s at_c at_k number other x.0 x.1 x.2 x.3 d m a (there x.0 x.1 x.2 x.3)
        go (inr none) = none_sound w i c k s at_c at_k d m a (absent none)

    pub abort_stays_on : Stays d m a
    abort_stays_on = go there_or_not
      where
        go : There ⊎ (branch_place number c.branches ≡ None) → Stays d m a
        go (inl x) = abort_stays w i c k s at_c at_k number other x.0 x.1 x.2 x.3 d m a (there x.0 x.1 x.2 x.3)
        go (inr none) = none_stays w i c k s at_c at_k d m a (absent none)
