-- Which commit has a revision, where it stands, and whether it is gone.
use Rattle.std.proofs.Common.{◌≡◌, ◌≢◌, ◌≤◌, ◌<◌, ◌+◌, ◌-◌, ℕ, zero, suc, Bool, true, false, cond, nat_le, nat_lt, List, [], ◌∷◌, ◌++◌, length, get_or, take, drop, Option, Some, None, refl, sym, ap, ◌∙◌, subst, append_assoc, arith, inl, inr, ◌⊎◌}
use Rattle.std.specs.List.{cons_option, find, position, position_or_len, slice_get}
use Rattle.std.specs.Option.{option_map, option_map_or, unwrap_or}
use Rattle.std.proofs.lemmas.Bool.Decides.{nat_tests}
use Rattle.std.proofs.lemmas.List.Quantifiers.{position-Some}
use Rattle.st_lemmas.proofs.Bools.{true-false}
use Rattle.st_ids.specs.Listing.{AreDistinct, Has}
use Rattle.st_ids.specs.Order.{same_rev}
use Rattle.st_ids.specs.Root.{opening}
use Rattle.st_ids.specs.declared.names.Rev.{Rev}
use Rattle.st_ids.proofs.Orders.{same_rev-itself, same_rev-true}
use Rattle.st_ids.proofs.Shared.{filter-from}
use Rattle.st_history.specs.Past.{Past, commits_of, has_commit}
use Rattle.st_lists.specs.declared.lists.Entry.{Entry}
use Rattle.st_lists.specs.Log.{commit_in, commit_of, commits_in}
use Rattle.st_lists.specs.Undoing.{IsAt, IsUndoing}
use Rattle.st_marks.specs.declared.changes.Change.{Change}
use Rattle.st_marks.specs.declared.intents.Intent.{Intent}
use Rattle.st_marks.specs.declared.verdicts.Verdict.{Verdict}
use Rattle.st_marks.specs.Back.{IsBack}
use Rattle.st_marks.specs.Document.{Document, last_of, revs}
use Rattle.st_marks.specs.Run.{Run, done, next}
use Rattle.st_marks.specs.Verdict.{IsVerdict, carried_document}
use Rattle.st_marks.proofs.Members.{all-has, any-has, append_right, distinct-between, distinct-left, first-has, has-append, none-has}
use Rattle.st_marks.proofs.OneVerdict.{one_run, one_verdict, run_then}
use Rattle.st_read_laws.specs.Reading.{IsRead}
use Rattle.st_rebaser.specs.InTurn.{ShowInTurn, one_shown}
use Rattle.st_window.specs.declared.kept.Kept.{Kept}
use Rattle.st_window.specs.Window.{WindowView, kept_with}
use Rattle.st_window_laws.specs.Windows.{IsKept, IsWindowOf}
use Rattle.st_window_laws.proofs.Found.{found_unless}
use Rattle.st_undo.proofs.WindowLeads.{commits_at}
use Rattle.st_undo.specs.Undone.{IsSoundPast, has_commit_of, is_gone}

abbrev rev_of : Intent → Rev
rev_of N = N.rev

-- a change has the revision of its intent, and its schema
pub rev_read : (l : Bool) (D : Document) (N : Intent) (C : Change) → IsRead l D N C → N.rev ≡ C.rev
rev_read l D N C h = sym h.1.rev ∙ ap (λ (K : Change). K.rev) (sym h.2)

pub schema_read : (l : Bool) (D : Document) (N : Intent) (C : Change) → IsRead l D N C → N.schema ≡ C.schema
schema_read l D N C h = sym h.1.schema ∙ ap (λ (K : Change). K.schema) (sym h.2)

-- ## One commit has a revision

one_place : (f g : List Intent) (N M : Intent) (r q : List Intent) → f ++ N ∷ r ≡ g ++ M ∷ q → N.rev ≡ M.rev → AreDistinct rev_of (g ++ M ∷ q) → (f ≡ g) × (N ≡ M)
one_place [] [] N M r q e same d = (refl, let first : N ≡ M = cc in first)
one_place [] (Y ∷ g) N M r q e same d =
    let first : N ≡ Y = cc in
    absurd (all-has (λ (X : Intent). X.rev ≢ Y.rev) (g ++ M ∷ q) M d.0 (append_right g (M ∷ q) M (inl refl)) (sym same ∙ ap rev_of first))
one_place (X ∷ f) [] N M r q e same d =
    let rest : f ++ N ∷ r ≡ q = cc in
    absurd (all-has (λ (Z : Intent). Z.rev ≢ M.rev) q N d.0 (subst (λ Ns. Has Ns N) rest (append_right f (N ∷ r) N (inl refl))) same)
one_place (X ∷ f) (Y ∷ g) N M r q e same d =
    let first : X ≡ Y = cc in
    let rest : f ++ N ∷ r ≡ g ++ M ∷ q = cc in
    let s = one_place f g N M r q rest same d.1 in
    (λ i. first i ∷ s.0 i, s.1)

-- what undoes the commit of a revision is the way back over the one that stands there
pub back_at : (O : Document) (Ns : List Intent) (rev fresh under : Rev) (B N : Intent) (D F : Document) (v : Verdict) → AreDistinct rev_of Ns → IsAt O Ns rev N D v → Run O Ns F → IsUndoing O Ns rev fresh B → B.under ≡ under
    → IsBack D (carried_document v D N) fresh under B × (under ≡ unwrap_or (last_of (revs F.schemas)) opening)
back_at O Ns rev fresh under B N D F v once at run u is = (subst (λ r. IsBack D (carried_document v D N) fresh r B) (last ∙ says) back, sym says)
  where
    same : (u.is_at.front ≡ at.front) × (u.commit ≡ N)
    same = one_place u.is_at.front at.front u.commit N u.is_at.rest at.rest (sym u.is_at.list ∙ at.list) (u.is_at.named ∙ sym at.named) (subst (AreDistinct rev_of) at.list once)

    before : u.before ≡ D
    before = one_run (subst (λ Ms. Run O Ms u.before) same.0 u.is_at.before) at.before

    verdict : Verdict.Sound ≡ v
    verdict = one_verdict D N Verdict.Sound v (subst (λ (X : Document). IsVerdict X N Verdict.Sound) before (subst (λ (M : Intent). IsVerdict u.before M Verdict.Sound) same.1 u.is_at.verdict)) at.verdict

    after : u.after ≡ F
    after = one_run u.now run

    last : unwrap_or (last_of (revs u.after.schemas)) opening ≡ unwrap_or (last_of (revs F.schemas)) opening
    last = ap (λ (X : Document). unwrap_or (last_of (revs X.schemas)) opening) after

    says : unwrap_or (last_of (revs F.schemas)) opening ≡ under
    says = sym last ∙ sym u.back.rev_and_under.1 ∙ is

    back : IsBack D (carried_document v D N) fresh (unwrap_or (last_of (revs u.after.schemas)) opening) B
    back = subst (λ (w : Verdict). IsBack D (carried_document w D N) fresh (unwrap_or (last_of (revs u.after.schemas)) opening) B) verdict
        (subst (λ (X : Document). IsBack X (carried_document Verdict.Sound X N) fresh (unwrap_or (last_of (revs u.after.schemas)) opening) B) before
        (subst (λ (M : Intent). IsBack u.before (carried_document Verdict.Sound u.before M) fresh (unwrap_or (last_of (revs u.after.schemas)) opening) B) same.1 u.back))

-- ## Entries that have a commit

-- the commit of an entry that has that of a revision
commit_by : (rev : Rev) (e : Entry) → has_commit_of rev e ≡ true → (N : Intent) × (commit_of e ≡ Some N) × (N.rev ≡ rev)
commit_by rev e h = go (commit_of e) refl h
  where
    go : (o : Option Intent) → commit_of e ≡ o → option_map_or (λ (N : Intent). same_rev N.rev rev) o false ≡ true → (N : Intent) × (commit_of e ≡ Some N) × (N.rev ≡ rev)
    go None is h = absurd (cc)
    go (Some N) is h = (N, is, same_rev-true N.rev rev h)

has_commit_by : (rev : Rev) (e : Entry) (N : Intent) → commit_of e ≡ Some N → N.rev ≡ rev → has_commit_of rev e ≡ true
has_commit_by rev e N is named = ap (λ o. option_map_or (λ (N : Intent). same_rev N.rev rev) o false) is ∙ ap (λ r. same_rev r rev) named ∙ same_rev-itself rev

has_get : {X : Type 0} (xs : List X) (x : X) → Has xs x → (i : ℕ) × (slice_get xs i ≡ Some x)
has_get [] x h = absurd h
has_get (y ∷ ys) x (inl same) = (zero, ap Some same)
has_get (y ∷ ys) x (inr h) = let r = has_get ys x h in (suc r.0, r.1)

-- a commit that stands at an entry stands before each later one
stands_before : (log : List Entry) (i j : ℕ) (e : Entry) (M : Intent) → slice_get log i ≡ Some e → commit_of e ≡ Some M → i < j → Has (commits_in (take j log)) M
stands_before [] i j e M at is low = absurd (let bad : ◌≡◌ {A = Option Entry} None (Some e) = at in cc)
stands_before (x ∷ xs) i zero e M at is low = absurd (omega (arith, low))
stands_before (x ∷ xs) zero (suc j) e M at is low =
    let same : x ≡ e = cc in
    subst (λ o. Has (cons_option o (commits_in (take j xs))) M) (sym (ap commit_of same ∙ is)) (inl refl)
stands_before (x ∷ xs) (suc i) (suc j) e M at is low = more (commit_of x) (stands_before xs i j e M at is (omega (arith, low)))
  where
    more : (o : Option Intent) → Has (commits_in (take j xs)) M → Has (cons_option o (commits_in (take j xs))) M
    more None h = h
    more (Some N) h = inr h

two_places : (log : List Entry) (i j : ℕ) (e x : Entry) (M N : Intent) → AreDistinct rev_of (commits_in log) → slice_get log i ≡ Some e → commit_of e ≡ Some M → slice_get log j ≡ Some x → commit_of x ≡ Some N → i < j → M.rev ≡ N.rev → ⊥
two_places log i j e x M N once at is there has low same =
    distinct-between rev_of (commits_in (take j log)) (N ∷ commits_in (drop (j + 1) log)) M N (subst (AreDistinct rev_of) (commits_at log j x N there has) once) (stands_before log i j e M at is low) (inl refl) (sym same)

-- an entry has one commit
same_intent : (log : List Entry) (i j : ℕ) (e x : Entry) (M N : Intent) → i ≡ j → slice_get log i ≡ Some e → slice_get log j ≡ Some x → commit_of e ≡ Some M → commit_of x ≡ Some N → M ≡ N
same_intent log i j e x M N same at there is has =
    let both : Some e ≡ Some x = sym at ∙ ap (λ k. slice_get log k) same ∙ there in
    let one : e ≡ x = cc in
    let commits : Some M ≡ Some N = sym is ∙ ap commit_of one ∙ has in
    cc

-- the number of the first entry that has the commit of a revision decides
numbered : (floor : ℕ) (rev : Rev) (log : List Entry) (b : Bool) → ((e : Entry) → Has log e → has_commit_of rev e ≡ true → nat_le e.n floor ≡ b) → ((find (has_commit_of rev) log ≡ None) → b ≡ false) → is_gone floor rev log ≡ b
numbered floor rev log b each none = go (find (has_commit_of rev) log) refl
  where
    go : (o : Option Entry) → find (has_commit_of rev) log ≡ o → is_gone floor rev log ≡ b
    go None e = ap (λ (o : Option Entry). option_map_or (λ n. nat_le n floor) (option_map (λ (x : Entry). x.n) o) false) e ∙ sym (none e)
    go (Some y) e =
        let h = first-has (has_commit_of rev) log y e in
        ap (λ (o : Option Entry). option_map_or (λ n. nat_le n floor) (option_map (λ (x : Entry). x.n) o) false) e ∙ each y h.0 h.1

-- ## A commit that is kept

module _ (l : Bool) (p : Past) (s : IsSoundPast p) (w : WindowView) (k : Kept) (a : IsKept l p.opening p.log k) where
  pub is_commit : commit_of a.entry ≡ Some a.intent
  is_commit = ap commit_in a.commit

  pub kept_rev : a.intent.rev ≡ k.change.rev
  kept_rev = rev_read l a.before a.intent k.change a.change

  pub kept_at : IsAt p.opening (commits_of p) k.change.rev a.intent a.before k.verdict
  kept_at = record {
    front = commits_in (take (k.n - 1) p.log);
    rest = commits_in (drop (k.n - 1 + 1) p.log) ++ p.pending;
    list = ap (λ Ns. Ns ++ p.pending) (commits_at p.log (k.n - 1) a.entry a.intent a.there is_commit) ∙ append_assoc (commits_in (take (k.n - 1) p.log)) (a.intent ∷ commits_in (drop (k.n - 1 + 1) p.log)) p.pending;
    named = kept_rev;
    before = a.to_before;
    verdict = a.verdict;
  }

  pub kept_not_gone : w.floor < k.n → is_gone w.floor k.change.rev p.log ≡ false
  kept_not_gone up = numbered w.floor k.change.rev p.log false each (λ _. refl)
    where
      once : AreDistinct rev_of (commits_in p.log)
      once = distinct-left rev_of (commits_in p.log) p.pending s.once

      each : (e : Entry) → Has p.log e → has_commit_of k.change.rev e ≡ true → nat_le e.n w.floor ≡ false
      each e there named = go (nat_le e.n w.floor) refl
        where
          go : (b : Bool) → nat_le e.n w.floor ≡ b → nat_le e.n w.floor ≡ false
          go false q = q
          go true q =
              let i = has_get p.log e there in
              let number : e.n ≡ i.0 + 1 = s.numbered i.0 e i.1 in
              let low : e.n ≤ w.floor = grind (arith, nat_tests) in
              let c = commit_by k.change.rev e named in
              absurd (two_places p.log i.0 (k.n - 1) e a.entry c.0 a.intent once i.1 c.1 a.there is_commit (omega (arith, number, low, up)) (c.2 ∙ sym kept_rev))

-- ## Pending commits

-- the change at a place shows the commit that stands there
pub record ShownAt (l : Bool) (D : Document) (Ns : List Intent) (C : Change) (Cs : List Change) (F : Document) : Type 0 where
  pub commit : Intent
  pub before : Document
  pub verdict : Verdict
  pub front : List Intent
  pub rest : List Intent
  pub list : Ns ≡ front ++ commit ∷ rest
  pub to_before : Run D front before
  pub is : IsVerdict before commit verdict
  pub change : IsRead l before commit C
  pub shown : ShowInTurn l (carried_document verdict before commit) rest Cs F

drop_none : {X : Type 0} (j : ℕ) → ◌≡◌ {A = List X} (drop j []) []
drop_none zero = refl
drop_none (suc j) = refl

pub shown_at : (l : Bool) (Ns : List Intent) (D : Document) (Cs : List Change) (F : Document) (j : ℕ) (C : Change) (Xs : List Change) → ShowInTurn l D Ns Cs F → drop j Cs ≡ C ∷ Xs → ShownAt l D Ns C Xs F
shown_at l [] D [] F j C Xs shown at = absurd (let bad : ◌≡◌ {A = List Change} [] (C ∷ Xs) = sym (drop_none j) ∙ at in cc)
shown_at l [] D (K ∷ Cs) F j C Xs shown at = elim shown [ ]
shown_at l (N ∷ Ns) D [] F j C Xs shown at = elim shown [ ]
shown_at l (N ∷ Ns) D (K ∷ Cs) F zero C Xs (one_shown v is c rest) at =
    let same : K ≡ C = cc in
    let later : Cs ≡ Xs = cc in
    record { commit = N; before = D; verdict = v; front = []; rest = Ns; list = refl; to_before = done; is = is; change = subst (IsRead l D N) same c; shown = subst (λ Ks. ShowInTurn l (carried_document v D N) Ns Ks F) later rest }
shown_at l (N ∷ Ns) D (K ∷ Cs) F (suc j) C Xs (one_shown v is c rest) at =
    let r = shown_at l Ns (carried_document v D N) Cs F j C Xs rest at in
    record {
      commit = r.commit;
      before = r.before;
      verdict = r.verdict;
      front = N ∷ r.front;
      rest = r.rest;
      list = ap (λ Ms. N ∷ Ms) r.list;
      to_before = next v is r.to_before;
      is = r.is;
      change = r.change;
      shown = r.shown;
    }

-- the first of what is behind a place is at it
first_behind : {X : Type 0} (xs : List X) (j : ℕ) (x : X) (ys : List X) → drop j xs ≡ x ∷ ys → get_or xs j x ≡ x
first_behind [] zero x ys e = refl
first_behind [] (suc j) x ys e = refl
first_behind (y ∷ xs) zero x ys e = let same : y ≡ x = cc in same
first_behind (y ∷ xs) (suc j) x ys e = first_behind xs j x ys e

-- the change that is found has the revision
pub found_rev : (rev : Rev) (Cs : List Change) (j : ℕ) (C : Change) (Xs : List Change) → position (λ (C : Change). same_rev C.rev rev) Cs ≡ Some j → drop j Cs ≡ C ∷ Xs → C.rev ≡ rev
found_rev rev Cs j C Xs e at =
    let q = position-Some (λ (C : Change). same_rev C.rev rev) Cs j C e in
    same_rev-true C.rev rev (ap (λ (K : Change). same_rev K.rev rev) (sym (first_behind Cs j C Xs at)) ∙ q.1)

-- each commit has its change
shown_of : (l : Bool) (Ns : List Intent) (D : Document) (Cs : List Change) (F : Document) (N : Intent) → ShowInTurn l D Ns Cs F → Has Ns N → (C : Change) × Has Cs C × (C.rev ≡ N.rev)
shown_of l [] D Cs F N shown h = absurd h
shown_of l (M ∷ Ns) D [] F N shown h = elim shown [ ]
shown_of l (M ∷ Ns) D (C ∷ Cs) F N (one_shown v is c rest) (inl same) = (C, inl refl, sym (rev_read l D M C c) ∙ ap rev_of same)
shown_of l (M ∷ Ns) D (C ∷ Cs) F N (one_shown v is c rest) (inr h) = let r = shown_of l Ns (carried_document v D M) Cs F N rest h in (r.0, inr r.1, r.2)

module _ (l : Bool) (p : Past) (s : IsSoundPast p) (T F : Document) (run : Run p.opening (commits_in p.log) T) (Cs : List Change) (rev : Rev) where
  pub pending_list : (C : Change) (Xs : List Change) → (a : ShownAt l T p.pending C Xs F) → commits_of p ≡ (commits_in p.log ++ a.front) ++ a.commit ∷ a.rest
  pending_list C Xs a = ap (λ Ns. commits_in p.log ++ Ns) a.list ∙ sym (append_assoc (commits_in p.log) a.front (a.commit ∷ a.rest))

  -- one that is pending isn't gone
  pub pending_at : (C : Change) (Xs : List Change) → C.rev ≡ rev → (a : ShownAt l T p.pending C Xs F) → IsAt p.opening (commits_of p) rev a.commit a.before a.verdict
  pending_at C Xs named a = record {
    front = commits_in p.log ++ a.front;
    rest = a.rest;
    list = pending_list C Xs a;
    named = rev_read l a.before a.commit C a.change ∙ named;
    before = run_then run a.to_before;
    verdict = a.is;
  }

  pub pending_not_gone : (floor : ℕ) (N : Intent) → Has p.pending N → N.rev ≡ rev → is_gone floor rev p.log ≡ false
  pending_not_gone floor N h named = numbered floor rev p.log false each (λ _. refl)
    where
      each : (e : Entry) → Has p.log e → has_commit_of rev e ≡ true → nat_le e.n floor ≡ false
      each e there has =
          let i = has_get p.log e there in
          let c = commit_by rev e has in
          absurd (distinct-between rev_of (commits_in p.log) p.pending c.0 N s.once
          (subst (λ Ns. Has Ns c.0) (sym (commits_at p.log i.0 e c.0 i.1 c.1)) (append_right (commits_in (take i.0 p.log)) (c.0 ∷ commits_in (drop (i.0 + 1) p.log)) c.0 (inl refl))) h (named ∙ sym c.2))

place_within : {X : Type 0} (f : X → Bool) (xs : List X) (x : X) → Has xs x → f x ≡ true → position_or_len f xs < length xs
place_within f [] x h e = absurd h
place_within {X} f (y ∷ ys) x h e = go (f y) refl (λ i. place_within f ys x i e) h
  where
    go : (b : Bool) → f y ≡ b → (Has ys x → position_or_len f ys < length ys) → (y ≡ x) ⊎ Has ys x → position_or_len f (y ∷ ys) < length (y ∷ ys)
    go true t rest h = let first : position_or_len f (y ∷ ys) ≡ 0 = rw t refl in omega (arith, first)
    go false t rest (inl same) = absurd (true-false (ap f same ∙ e) t)
    go false t rest (inr h) = let later : position_or_len f (y ∷ ys) ≡ 1 + position_or_len f ys = rw t refl in omega (arith, later, rest h)

no_place : {X : Type 0} (f : X → Bool) (xs : List X) (x : X) → position f xs ≡ None → Has xs x → f x ≡ true → ⊥
no_place {X} f xs x e h t = go (nat_lt (position_or_len f xs) (length xs)) refl e
  where
    go : (b : Bool) → nat_lt (position_or_len f xs) (length xs) ≡ b → ◌≡◌ {A = Option ℕ} (cond b (Some (position_or_len f xs)) None) None → ⊥
    go true b e = absurd (cc)
    go false b e = let past : length xs ≤ position_or_len f xs = grind (arith, nat_tests) in absurd (omega (arith, past, place_within f xs x h t))

-- ## A commit that is neither kept nor pending is gone

-- what is kept of an entry's number has the revision of its commit
kept_of : (l : Bool) (p : Past) (k : Kept) (a : IsKept l p.opening p.log k) (i : ℕ) (e : Entry) (M : Intent) → slice_get p.log i ≡ Some e → commit_of e ≡ Some M → k.n ≡ i + 1 → k.change.rev ≡ M.rev
kept_of l p k a i e M at is number =
    let place : k.n - 1 ≡ i = omega (arith, number) in
    let entry : commit_of a.entry ≡ Some a.intent = ap commit_in a.commit in
    let one : a.intent ≡ M = same_intent p.log (k.n - 1) i a.entry e a.intent M place a.there at entry is in
    sym (rev_read l a.before a.intent k.change a.change) ∙ ap rev_of one

module _ (l : Bool) (p : Past) (s : IsSoundPast p) (w : WindowView) (h : IsWindowOf l p.opening p.log w) (T F : Document) (Cs : List Change) (shown : ShowInTurn l T p.pending Cs F) (rev : Rev)
    (none : kept_with rev w.kept ≡ None) (nowhere : position (λ (C : Change). same_rev C.rev rev) Cs ≡ None) where
  -- the entry that has it is at or below the floor
  at_floor : (e : Entry) → Has p.log e → has_commit_of rev e ≡ true → nat_le e.n w.floor ≡ true
  at_floor e there named = go (nat_le e.n w.floor) refl
    where
      go : (b : Bool) → nat_le e.n w.floor ≡ b → nat_le e.n w.floor ≡ true
      go true q = q
      go false q =
          let i = has_get p.log e there in
          let number : e.n ≡ i.0 + 1 = s.numbered i.0 e i.1 in
          let up : w.floor < e.n = grind (arith, nat_tests) in
          let c = commit_by rev e named in
          let k = h.all i.0 e c.0 i.1 c.1 (omega (arith, number, up)) in
          absurd ((found_unless rev w.kept).0 none k.0 k.1 (kept_of l p k.0 (h.each k.0 k.1) i.0 e c.0 i.1 c.1 k.2 ∙ c.2))

  pub gone : has_commit p rev ≡ true → is_gone w.floor rev p.log ≡ true
  gone there = either (has-append (commits_in p.log) p.pending x.0 x.1)
    where
      x : (N : Intent) × Has (commits_of p) N × (same_rev N.rev rev ≡ true)
      x = any-has (λ (N : Intent). same_rev N.rev rev) (commits_of p) there

      named : x.0.rev ≡ rev
      named = same_rev-true x.0.rev rev x.2

      either : Has (commits_in p.log) x.0 ⊎ Has p.pending x.0 → is_gone w.floor rev p.log ≡ true
      either (inl i) =
          let e = filter-from commit_of p.log x.0 i in
          numbered w.floor rev p.log true at_floor (λ q. absurd (true-false (has_commit_by rev e.0 x.0 e.2 named) (none-has (has_commit_of rev) p.log e.0 q e.1)))
      either (inr i) =
          let c = shown_of l p.pending T Cs F x.0 shown i in
          absurd (no_place (λ (C : Change). same_rev C.rev rev) Cs c.0 nowhere c.1 (ap (λ r. same_rev r rev) (c.2 ∙ named) ∙ same_rev-itself rev))
