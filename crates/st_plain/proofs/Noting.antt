-- What is kept of the commits of the log, when it grows.
use Rattle.std.proofs.Common.{◌≡◌, ◌<◌, ◌+◌, ℕ, zero, suc, Bool, true, false, cond, List, [], ◌∷◌, ◌++◌, length, take, Option, Some, None, IsSome, is_some, refl, sym, ap, ◌∙◌, subst, arith, ◌⊎◌, inl, inr}
use Rattle.std.specs.BTreeMap.{BTreeMap, get}
use Rattle.std.specs.List.{cons_option, slice_get}
use Rattle.std.proofs.lemmas.List.{take_all}
use Rattle.st_ids.specs.Listing.{Has}
use Rattle.st_ids.specs.Order.{rev_cmp, same_rev}
use Rattle.st_ids.specs.Root.{opening}
use Rattle.st_ids.specs.declared.names.Rev.{Rev}
use Rattle.st_ids.proofs.Orders.{same_rev-true, same_rev-itself}
use Rattle.st_marks.specs.declared.intents.Intent.{Intent}
use Rattle.st_marks.specs.Document.{Document}
use Rattle.st_marks.specs.Run.{Run}
use Rattle.st_marks.proofs.Members.{append_left, append_right, distinct-between, has-map, map-has}
use Rattle.st_log_laws.specs.Names.{HaveNewRevisions, revisions}
use Rattle.st_heads.specs.Remembered.{AreCarried, none as nothing_done}
use Rattle.st_heads.specs.declared.ways.Carried.{Carried}
use Rattle.st_heads.proofs.Runs.{opened}
use Rattle.st_lists.specs.Log.{commit_in, commit_of, commits_in, commits_of_text, log_with}
use Rattle.st_lists.specs.declared.lists.Body.{Body}
use Rattle.st_lists.specs.declared.lists.Entry.{Entry}
use Rattle.st_lists.proofs.Logs.{entered_commits, entered_front, last_entry}
use Rattle.st_plain_undo.specs.Logged.{AreLogged, IsLogged}
use Rattle.st_plain_undo.specs.declared.logged.Logged.{Logged}
use Rattle.st_plain_log.specs.Receiving.{HasEntered}
use Rattle.st_plain.specs.inside.Replicas.{HasLogged}

-- ## Lists

-- an item of a list with one more is one of before, or the last
pub get_cases : {X : Type 0} (xs : List X) (x y : X) (i : ℕ) → slice_get (xs ++ x ∷ []) i ≡ Some y → ((i < length xs) × (slice_get xs i ≡ Some y)) ⊎ ((i ≡ length xs) × (x ≡ y))
get_cases [] x y zero e = let same : x ≡ y = cc in inr (refl, same)
get_cases [] x y (suc i) e = cc
get_cases (z ∷ zs) x y zero e = inl (omega arith, e)
get_cases (z ∷ zs) x y (suc i) e = elim (get_cases zs x y i e) [ inl w ↦ inl (omega (arith, w.0), w.1) | inr w ↦ inr (ap suc w.0, w.1) ]

-- the commit of an entry is one of the log
pub commit_among : (es : List Entry) (i : ℕ) (e : Entry) (N : Intent) → slice_get es i ≡ Some e → commit_of e ≡ Some N → Has (commits_in es) N
commit_among [] i e N at is = cc
commit_among (x ∷ es) zero e N at is =
    let same : x ≡ e = cc in
    subst (λ o. Has (cons_option o (commits_in es)) N) (sym (ap commit_of same ∙ is)) (inl refl)
commit_among (x ∷ es) (suc i) e N at is = past (commit_of x) (commit_among es i e N at is)
  where
    past : (o : Option Intent) → Has (commits_in es) N → Has (cons_option o (commits_in es)) N
    past None h = h
    past (Some M) h = inr h

revisions_more : (As Bs : List Intent) (r : Rev) → Has (revisions As) r → Has (revisions (As ++ Bs)) r
revisions_more As Bs r h =
    let m = has-map (λ (N : Intent). N.rev) As r h in
    subst (Has (revisions (As ++ Bs))) m.2 (map-has (λ (N : Intent). N.rev) (As ++ Bs) m.0 (append_left As Bs m.0 m.1))

-- ## One commit

last_remembered : {D F : Document} → AreCarried D [] [] F → F ≡ D
last_remembered nothing_done = refl

pub entered_of : (D E : Document) (old new : BTreeMap Rev Logged) (n : ℕ) (o : Option Intent) → HasLogged D old n o E new → HasEntered D o E
entered_of D E old new n None w = w.0
entered_of D E old new n (Some N) w = let f = opened w.1 in (f.0, f.1, last_remembered f.3)

-- ## The log grows

-- before any entry
module _ (O D E : Document) (log : List Entry) (session : ℕ) (text : Body) (old : BTreeMap Rev Logged) (w : AreLogged O log old) where
  abbrev longer : List Entry
  longer = log_with log session text

  abbrev last : Entry
  last = last_entry log session text

  logged_longer : (i : ℕ) (e : Entry) (N : Intent) (l : Logged) → i < length log → IsLogged O log i e N l → IsLogged O longer i e N l
  logged_longer i e N l within x = record {
    numbered = x.numbered;
    n = x.n;
    is_schema = x.is_schema;
    before = x.before;
    run = subst (λ (es : List Entry). Run O (commits_in es) x.before) (sym (entered_front log session text i (omega (arith, within)))) x.run;
    verdict = x.verdict;
    judged = x.judged;
    carried = x.carried;
  }

  commits_longer : commits_in longer ≡ commits_in log ++ commits_of_text text
  commits_longer = entered_commits log session text

  still_among : (r : Rev) → Has (revisions (commits_in log)) r → Has (revisions (commits_in longer)) r
  still_among r h = subst (λ Ns. Has (revisions Ns) r) (sym commits_longer) (revisions_more (commits_in log) (commits_of_text text) r h)

  -- an entry without a commit
  pub logged_none : commit_in text ≡ None → AreLogged O longer old
  logged_none none = record { each = each; no_other = λ r h. still_among r (w.no_other r h) }
    where
      each : (i : ℕ) (e : Entry) (N : Intent) → slice_get longer i ≡ Some e → commit_of e ≡ Some N → (l : Logged) × (get rev_cmp old N.rev ≡ Some l) × IsLogged O longer i e N l
      each i e N at is = go (get_cases log last e i at)
        where
          go : ((i < length log) × (slice_get log i ≡ Some e)) ⊎ ((i ≡ length log) × (last ≡ e)) → (l : Logged) × (get rev_cmp old N.rev ≡ Some l) × IsLogged O longer i e N l
          go (inl h) = let x = w.each i e N h.1 is in (x.0, x.1, logged_longer i e N x.0 h.0 x.2)
          go (inr h) = let bad : None ≡ Some N = sym none ∙ ap commit_of h.1 ∙ is in absurd (cc)

  -- a commit
  module _ (N : Intent) (k : Carried) (new : BTreeMap Rev Logged) (is_N : commit_in text ≡ Some N) (fresh : HaveNewRevisions (opening ∷ []) (commits_in log ++ commits_of_text text)) (run : Run O (commits_in log) D)
      (carried : AreCarried D (N ∷ []) (k ∷ []) E)
      (noted : (r : Rev) → get rev_cmp new r ≡ cond (same_rev N.rev r) (Some (record { n = length log + 1; is_schema = is_some N.schema; carried = k })) (get rev_cmp old r)) where
    abbrev l : Logged
    l = record { n = length log + 1; is_schema = is_some N.schema; carried = k }

    one_text : commits_of_text text ≡ N ∷ []
    one_text = ap (λ o. cons_option o []) is_N

    apart : (M : Intent) → Has (commits_in log) M → same_rev N.rev M.rev ≡ false
    apart M h = go (same_rev N.rev M.rev) refl
      where
        go : (b : Bool) → same_rev N.rev M.rev ≡ b → same_rev N.rev M.rev ≡ false
        go false e = e
        go true e = absurd (distinct-between (λ (X : Intent). X.rev) (commits_in log) (commits_of_text text) M N fresh.once h (subst (λ Ns. Has Ns N) (sym one_text) (inl refl)) (same_rev-true N.rev M.rev e))

    before : (i : ℕ) (e : Entry) (M : Intent) → i < length log → slice_get log i ≡ Some e → commit_of e ≡ Some M → (x : Logged) × (get rev_cmp new M.rev ≡ Some x) × IsLogged O longer i e M x
    before i e M within at is =
        let x = w.each i e M at is in
        (x.0, noted M.rev ∙ ap (λ b. cond b (Some l) (get rev_cmp old M.rev)) (apart M (commit_among log i e M at is)) ∙ x.1, logged_longer i e M x.0 within x.2)

    last_one : IsLogged O longer (length log) last N l
    last_one =
        let f = opened carried in
        let whole : log ≡ take (length log) longer = sym (entered_front log session text (length log) (omega arith) ∙ take_all (length log) log (omega arith)) in
        record {
          numbered = refl;
          n = refl;
          is_schema = refl;
          before = D;
          run = subst (λ (es : List Entry). Run O (commits_in es) D) whole run;
          verdict = f.0;
          judged = f.1;
          carried = f.2;
        }

    itself : get rev_cmp new N.rev ≡ Some l
    itself = noted N.rev ∙ ap (λ b. cond b (Some l) (get rev_cmp old N.rev)) (same_rev-itself N.rev)

    each_noted : (i : ℕ) (e : Entry) (M : Intent) → slice_get longer i ≡ Some e → commit_of e ≡ Some M → (x : Logged) × (get rev_cmp new M.rev ≡ Some x) × IsLogged O longer i e M x
    each_noted i e M at is = go (get_cases log last e i at)
      where
        go : ((i < length log) × (slice_get log i ≡ Some e)) ⊎ ((i ≡ length log) × (last ≡ e)) → (x : Logged) × (get rev_cmp new M.rev ≡ Some x) × IsLogged O longer i e M x
        go (inl h) = before i e M h.0 h.1 is
        go (inr h) =
            let both : Some N ≡ Some M = sym is_N ∙ ap commit_of h.1 ∙ is in
            let same : N ≡ M = cc in
            subst (λ X. (x : Logged) × (get rev_cmp new X.rev ≡ Some x) × IsLogged O longer i e X x) same
            (subst (λ y. (x : Logged) × (get rev_cmp new N.rev ≡ Some x) × IsLogged O longer i y N x) h.1
            (subst (λ j. (x : Logged) × (get rev_cmp new N.rev ≡ Some x) × IsLogged O longer j last N x) (sym h.0) (l, itself, last_one)))

    other : (r : Rev) → (b : Bool) → same_rev N.rev r ≡ b → IsSome (get rev_cmp new r) → Has (revisions (commits_in longer)) r
    other r true e h =
        subst (λ Ns. Has (revisions Ns) r) (sym commits_longer)
        (subst (Has (revisions (commits_in log ++ commits_of_text text))) (same_rev-true N.rev r e) (map-has (λ (X : Intent). X.rev) (commits_in log ++ commits_of_text text) N
        (append_right (commits_in log) (commits_of_text text) N (subst (λ Ns. Has Ns N) (sym one_text) (inl refl)))))
    other r false e h = still_among r (w.no_other r (subst IsSome (noted r ∙ ap (λ b. cond b (Some l) (get rev_cmp old r)) e) h))

    logged_one : AreLogged O longer new
    logged_one = record { each = each_noted; no_other = λ r h. other r (same_rev N.rev r) refl h }

  pub logged_entered : (new : BTreeMap Rev Logged) → HaveNewRevisions (opening ∷ []) (commits_in log ++ commits_of_text text) → Run O (commits_in log) D → HasLogged D old (length log + 1) (commit_in text) E new → AreLogged O longer new
  logged_entered new fresh run has = go (commit_in text) refl has
    where
      go : (o : Option Intent) → commit_in text ≡ o → HasLogged D old (length log + 1) o E new → AreLogged O longer new
      go None none h = subst (AreLogged O longer) (sym h.1) (logged_none none)
      go (Some N) is h = logged_one N h.0 new is fresh run h.1 h.2
