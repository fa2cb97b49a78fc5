-- The change of a commit that comes next, carried over what is ahead of its session.
use Rattle.std.proofs.Common.{◌≡◌, ◌≤◌, ◌<◌, ◌+◌, ◌-◌, ◌==◌, ℕ, suc, Bool, true, false, List, [], ◌∷◌, ◌++◌, length, length-append, take, drop, Option, Some, refl, sym, ap, ◌∙◌, subst, arith, inl, inr}
use Rattle.std.specs.List.{slice_get, slice_set}
use Rattle.std.proofs.lemmas.Bool.{cases_lt}
use Rattle.std.proofs.lemmas.Bool.Decides.{nat_tests}
use Rattle.std.proofs.lemmas.List.{drop-set-lt, drop_all, length-set, take_more_set}
use Rattle.st_clusters.specs.declared.ids.IdRange.{IdRange}
use Rattle.st_lemmas.proofs.Lists.{drop-slice_get}
use Rattle.st_lists.specs.declared.lists.Body.TheVariants.{Commit}
use Rattle.st_lists.specs.declared.lists.Entry.{Entry}
use Rattle.st_lists.specs.Log.{commits_by, commits_in, log_with}
use Rattle.st_lists.proofs.Logs.{by_own_text, entered_commits, last_entry}
use Rattle.st_log_laws.specs.Turns.{FitInTurn}
use Rattle.st_log_laws.proofs.Turns.{front as fits_front, rest as fits_rest, turn_extends}
use Rattle.st_marks.specs.declared.changes.Change.{Change}
use Rattle.st_marks.specs.declared.intents.Intent.{Intent}
use Rattle.st_marks.specs.declared.steps.Step.{Step}
use Rattle.st_marks.specs.declared.verdicts.Verdict.{Verdict}
use Rattle.st_marks.specs.CarryOut.{full}
use Rattle.st_marks.specs.Document.{Document, HasShortRows, IsSoundInForm}
use Rattle.st_marks.specs.Extends.{IsExtendedBy}
use Rattle.st_marks.specs.Intent.{Fits}
use Rattle.st_marks.specs.Run.{Run, done, next}
use Rattle.st_marks.specs.Verdict.{IsVerdict, carried_document}
use Rattle.st_marks.proofs.Members.{append_left}
use Rattle.st_marks.proofs.OneVerdict.{one_run, run_then}
use Rattle.st_read_laws.specs.Reading.{IsRead, IsStepRead}
use Rattle.st_rebaser.specs.declared.rebaser.Effected.{Effected}
use Rattle.st_seats.specs.Seats.{IsComing, IsEntered, IsWrittenFrom}
use Rattle.st_valid.specs.Author.{author_list}
use Rattle.st_valid.proofs.AuthorsLists.{author_past}
use Rattle.st_ahead.specs.Lags.{AreAhead, IsAhead, IsLagAt, IsOfAnother}
use Rattle.st_ahead.specs.inside.Carrying.{IsCarried, IsCarriedAt, IsWrittenAt}
use Rattle.st_ahead.specs.declared.lag.Ahead.{Ahead}
use Rattle.st_ahead.specs.declared.lag.Lag.{Lag}
use Rattle.st_ahead.proofs.Along.{get_some, longer_list, same_between, still_of_another, was_of_another}
use Rattle.st_ahead.proofs.AheadLists.{end_later, first_goes, more_ahead, none_ahead, none_before, one_ahead}

get_last : {X : Type 0} (xs : List X) (x : X) → slice_get (xs ++ x ∷ []) (length xs) ≡ Some x
get_last [] x = refl
get_last (y ∷ ys) x = get_last ys x

-- one at a place, and its step
pub carried_at : (l : Bool) (i : ℕ) (xs : List Ahead) (one : Ahead) (C X : Change) (v u : Verdict) (T : Step) → Some one ≡ slice_get xs i → IsCarried l C v one.step X u T
    → IsCarriedAt l i xs C v (slice_set xs i (record { n = one.n; step = T })) X u
carried_at l i xs one C X v u T is k x there =
    let same : one ≡ x = only one x (is ∙ there) in
    (record { n = one.n; step = T }, refl, ap (λ (y : Ahead). y.n) same, subst (λ (y : Ahead). IsCarried l C v y.step X u T) same k)
  where
    only : (x y : Ahead) → Some x ≡ Some y → x ≡ y
    only x y e = cc

-- as many steps are there as before
pub same_count : (l : Bool) (i : ℕ) (xs ys : List Ahead) (C X : Change) (v u : Verdict) → i < length xs → IsCarriedAt l i xs C v ys X u → length ys ≡ length xs
same_count l i xs ys C X v u inside carried = let x = get_some xs i inside in let y = carried x.0 x.1 in ap length y.1 ∙ length-set xs i y.0

module _ (l : Bool) (O : Document) (log : List Entry) (session reference : ℕ) (ids : IdRange) (N : Intent) where
  abbrev longer : List Entry
  longer = log_with log session (Commit reference ids N)

  abbrev last : Entry
  last = last_entry log session (Commit reference ids N)

  -- the session's commit stands behind all others over which it writes
  one_longer : (n : ℕ) → n ≤ length log → author_list longer session n ≡ author_list log session n ++ N ∷ []
  one_longer n within = longer_list log session (Commit reference ids N) session n within ∙ ap (λ Ns. author_list log session n ++ Ns) (by_own_text log session (Commit reference ids N))

  run_longer : (n : ℕ) (D : Document) (v : Verdict) → n ≤ length log → Run O (author_list log session n) D → IsVerdict D N v → Run O (author_list longer session n) (carried_document v D N)
  run_longer n D v within r is = subst (λ Ns. Run O Ns (carried_document v D N)) (sym (one_longer n within)) (run_then r (next v is done))

  module _ (w : IsWrittenFrom O longer session reference) where
    all_fit : (n : ℕ) → reference ≤ n → n ≤ length log → FitInTurn O (author_list log session n ++ N ∷ [])
    all_fit n up within = subst (FitInTurn O) (one_longer n within) (w.author n up)

    fits_at : (n : ℕ) (D : Document) → reference ≤ n → n ≤ length log → Run O (author_list log session n) D → FitInTurn D (N ∷ [])
    fits_at n D up within r = fits_rest (N ∷ []) r (all_fit n up within)

    sound_at : (n : ℕ) (D : Document) → reference ≤ n → n ≤ length log → Run O (author_list log session n) D → IsSoundInForm D
    sound_at n D up within r = (turn_extends w.sound (fits_front (author_list log session n) (N ∷ []) O (all_fit n up within)) r).after

    -- ## Over one step

    -- the change stays where no other commit comes
    written_later : (m n : ℕ) (C : Change) (v : Verdict) → m ≤ n → n ≤ length log → ((k : ℕ) → m < k → k ≤ n → IsOfAnother log session k → ⊥)
        → IsWrittenAt l O log session m N C v → IsWrittenAt l O log session n N C v
    written_later m n C v up within none h = record {
      document = h.document;
      to_document = subst (λ Ns. Run O Ns h.document) (sym (same_between log session m n up within none)) h.to_document;
      verdict = h.verdict;
      change = h.change;
    }

    over_one : (x y : Ahead) (C X : Change) (v u : Verdict) → reference < x.n → x.n ≤ length log → IsAhead l O log session x → IsWrittenAt l O log session (x.n - 1) N C v
        → y.n ≡ x.n → IsCarried l C v x.step X u y.step → IsAhead l O longer session y × IsWrittenAt l O log session x.n N X u
    over_one x y C X v u above within h c same carried = (
      record {
        commit = subst (IsOfAnother longer session) (sym same) (still_of_another log session (Commit reference ids N) session x.n (omega (arith, above, within)) h.commit);
        before = carried_document v h.before N;
        after = carried_document u h.after N;
        to_before = subst (λ n. Run O (author_list longer session (n - 1)) (carried_document v h.before N)) (sym same) (run_longer (x.n - 1) h.before v (omega (arith, within)) h.to_before was);
        to_after = subst (λ n. Run O (author_list longer session n) (carried_document u h.after N)) (sym same) (run_longer x.n h.after u within h.to_after k.0);
        extends = k.2;
        step = k.3;
      },
      record { document = h.after; to_document = h.to_after; verdict = k.0; change = k.1 },
    )
      where
        here : c.document ≡ h.before
        here = one_run c.to_document h.to_before

        was : IsVerdict h.before N v
        was = subst (λ D. IsVerdict D N v) here c.verdict

        first : FitInTurn h.before (N ∷ [])
        first = fits_at (x.n - 1) h.before (omega (arith, above)) (omega (arith, within)) h.to_before

        then : FitInTurn h.after (N ∷ [])
        then = fits_at x.n h.after (omega (arith, above)) within h.to_after

        k : IsVerdict h.after N u × IsRead l h.after N X × IsExtendedBy (carried_document v h.before N) (carried_document u h.after N) × IsStepRead l (carried_document v h.before N) (carried_document u h.after N) y.step
        k = carried h.before h.after N h.extends first.0 then.0 first.1 then.1 was (subst (λ D. IsRead l D N C) here c.change) h.step

    -- ## Over all

    -- with those carried, and those that are left
    pub record AtPlace (end : ℕ) (ds rs : List Ahead) (C : Change) (v : Verdict) : Type 0 where
      pub place : ℕ
      pub low : reference ≤ place
      pub up : place ≤ end
      pub over : AreAhead l O longer session reference place ds
      pub left : AreAhead l O log session place end rs
      pub written : IsWrittenAt l O log session place N C v

    pub begun : (end : ℕ) (xs : List Ahead) (C : Change) (v : Verdict) → reference ≤ end → AreAhead l O log session reference end xs → IsWrittenAt l O log session reference N C v → AtPlace end [] xs C v
    begun end xs C v up h c = record { place = reference; low = omega arith; up = up; over = none_ahead l O longer session reference reference (λ k a b o. omega (arith, a, b)); left = h; written = c }

    one_over : (end : ℕ) (ds rs : List Ahead) (x y : Ahead) (C X : Change) (v u : Verdict) → end ≤ length log → AtPlace end ds (x ∷ rs) C v → y.n ≡ x.n → IsCarried l C v x.step X u y.step → AtPlace end (ds ++ y ∷ []) rs X u
    one_over end ds rs x y C X v u within p same carried = record {
      place = x.n;
      low = omega (arith, p.low, above);
      up = inside;
      over = more_ahead l O longer session reference p.place x.n ds (y ∷ []) p.low (omega (arith, above)) p.over one;
      left = first_goes l O log session p.place end x rs p.left;
      written = k.1;
    }
      where
        above : p.place < x.n
        above = p.left.rise.0

        inside : x.n ≤ end
        inside = (p.left.each x (inl refl)).0

        none : (k : ℕ) → p.place < k → k < x.n → IsOfAnother log session k → ⊥
        none = none_before l O log session p.place end x rs p.left

        up_to : p.place ≤ x.n - 1
        up_to = omega (arith, above)

        k : IsAhead l O longer session y × IsWrittenAt l O log session x.n N X u
        k = over_one x y C X v u (omega (arith, p.low, above)) (omega (arith, inside, within)) (p.left.each x (inl refl)).1
            (written_later p.place (x.n - 1) C v up_to (omega (arith, inside, within)) (λ j a b o. none j a (omega (arith, b, above)) o) p.written) same carried

        one : AreAhead l O longer session p.place x.n (y ∷ [])
        one = subst (λ n. AreAhead l O longer session p.place n (y ∷ [])) same
            (one_ahead l O longer session p.place y (omega (arith, same, above)) k.0
            (λ j a b o. none j a (omega (arith, b, same)) (was_of_another log session (Commit reference ids N) session j (omega (arith, b, same, inside, within, a)) o)))

    pub arrived : (end : ℕ) (ds : List Ahead) (C : Change) (v : Verdict) → end ≤ length log → AtPlace end ds [] C v → AreAhead l O longer session reference end ds × IsWrittenAt l O log session end N C v
    arrived end ds C v within p = (
      end_later l O longer session reference p.place end ds p.up (λ k a b o. none k a b (was_of_another log session (Commit reference ids N) session k (omega (arith, a, b, within)) o)) p.over,
      written_later p.place end C v p.up within none p.written,
    )
      where
        none : (k : ℕ) → p.place < k → k ≤ end → IsOfAnother log session k → ⊥
        none k a b o = (p.left.all k a b o).1

    -- the one at a place of the list
    pub turned : (end i : ℕ) (xs ys : List Ahead) (C X : Change) (v u : Verdict) → end ≤ length log → i < length xs → AtPlace end (take i xs) (drop i xs) C v → IsCarriedAt l i xs C v ys X u
        → AtPlace end (take (i + 1) ys) (drop (i + 1) ys) X u
    turned end i xs ys C X v u within inside p carried = at (get_some xs i inside)
      where
        at : (x : Ahead) × (slice_get xs i ≡ Some x) → AtPlace end (take (i + 1) ys) (drop (i + 1) ys) X u
        at (x, there) = go (carried x there)
          where
            go : (y : Ahead) × (ys ≡ slice_set xs i y) × (y.n ≡ x.n) × IsCarried l C v x.step X u y.step → AtPlace end (take (i + 1) ys) (drop (i + 1) ys) X u
            go (y, is, same, step) =
                let a : drop (i + 1) ys ≡ drop (i + 1) xs = ap (drop (i + 1)) is ∙ drop-set-lt (i + 1) xs i y (omega arith) in
                let b : take (i + 1) ys ≡ take i xs ++ y ∷ [] = ap (take (i + 1)) is ∙ take_more_set xs i y inside in
                subst (λ rs. AtPlace end (take (i + 1) ys) rs X u) (sym a) (subst (λ ds. AtPlace end ds (drop (i + 1) xs) X u) (sym b)
                (one_over end (take i xs) (drop (i + 1) xs) x y C X v u within (subst (λ rs. AtPlace end (take i xs) rs C v) (drop-slice_get xs i x there) p) same step))

    -- ## The commit comes

    -- the log before it
    pub written_before : IsWrittenFrom O log session reference
    written_before = record { sound = w.sound; commits = commits; author = author; own = λ e M h is. w.own e M (append_left log (last ∷ []) e h) is }
      where
        commits : FitInTurn O (commits_in log)
        commits = fits_front (commits_in log) (N ∷ []) O (subst (FitInTurn O) (entered_commits log session (Commit reference ids N)) w.commits)

        author : (n : ℕ) → reference ≤ n → FitInTurn O (author_list log session n)
        author n up = elim (cases_lt (length log) n) [
          | inl past ↦ subst (FitInTurn O) (sym (author_past log session n (omega (arith, past)))) commits
          | inr within ↦ fits_front (author_list log session n) (N ∷ []) O (all_fit n up within)
        ]

    pub entered : (A T : Document) (C X : Change) (e : Effected) → IsComing l O log session reference A T N C → IsRead l T N X
        → ((D : Document) (M : Intent) → IsSoundInForm D → Fits D M → HasShortRows (full D M) → IsRead l D M X → IsVerdict D M e.verdict × IsStepRead l D (carried_document e.verdict D M) e.step) → IsEntered l T N X e
    entered A T C X e coming shown effect =
        let before = written_before in
        let does = effect T N (turn_extends before.sound before.commits coming.to_trunk).after coming.fits_trunk coming.short_trunk shown in
        record { verdict = does.0; change = shown; step = does.1 }

    pub written_first : (A : Document) (end : ℕ) (C : Change) (v : Verdict) → reference ≤ end → end ≤ length log → Run O (author_list log session reference) A → IsRead l A N C
        → ((D : Document) (M : Intent) → IsSoundInForm D → Fits D M → HasShortRows (full D M) → IsRead l D M C → IsVerdict D M v) → IsWrittenAt l O log session reference N C v
    written_first A end C v up inside r c judge =
        let within : reference ≤ length log = omega (arith, up, inside) in
        let f = fits_at reference A (omega arith) within r in
        record { document = A; to_document = r; verdict = judge A N (sound_at reference A (omega arith) within r) f.0 f.1 c; change = c }

    -- where nothing is ahead
    pub none_over : (A : Document) (end : ℕ) (xs : List Ahead) (C : Change) → reference ≤ end → end ≤ length log → (length xs == 0) ≡ true → AreAhead l O log session reference end xs → Run O (author_list log session reference) A → IsRead l A N C
        → AreAhead l O longer session reference end xs × ((B : Document) → Run O (author_list log session end) B → IsRead l B N C)
    none_over A end [] C up inside empty h r c = (
      none_ahead l O longer session reference end (λ k a b o. none k a b (was_of_another log session (Commit reference ids N) session k (omega (arith, a, b, inside)) o)),
      λ B q. subst (λ D. IsRead l D N C) (one_run (subst (λ Ns. Run O Ns A) (sym (same_between log session reference end up inside none)) r) q) c,
    )
      where
        none : (k : ℕ) → reference < k → k ≤ end → IsOfAnother log session k → ⊥
        none k a b o = (h.all k a b o).1
    none_over A end (x ∷ xs) C up inside empty h r c = let bad : suc (length xs) ≡ 0 = grind (arith, nat_tests) in absurd (omega (arith, bad))

    pub read_there : (end : ℕ) (X : Change) (u : Verdict) → IsWrittenAt l O log session end N X u → (B : Document) → Run O (author_list log session end) B → IsRead l B N X
    read_there end X u c B q = subst (λ D. IsRead l D N X) (one_run c.to_document q) c.change

    pub committed : (T : Document) (q : Lag) (xs : List Ahead) (X : Change) (number : ℕ) → IsLagAt l O log session reference q → q.last ≡ length log → number ≡ length log + 1 → Run O (commits_in log) T
        → AreAhead l O longer session reference q.last xs → ((B : Document) → Run O (author_list log session q.last) B → IsRead l B N X)
        → IsLagAt l O longer session reference (record { reference = q.reference; last = number; ahead = xs }) × IsRead l T N X
    committed T q xs X number h end num r over c = (lag, c T (subst (λ Ns. Run O Ns T) (sym all) r))
      where
        size : length longer ≡ length log + 1
        size = length-append log (last ∷ [])

        all : author_list log session q.last ≡ commits_in log
        all = author_past log session q.last (omega (arith, end))

        -- the last entry is the session's own
        own : (k : ℕ) → q.last < k → k ≤ number → IsOfAnother longer session k → ⊥
        own k above within o =
            let place : k - 1 ≡ length log = omega (arith, above, within, end, num) in
            let same : ◌≡◌ {A = Option Entry} (Some last) (Some o.entry) = sym (get_last log last) ∙ ap (slice_get longer) (sym place) ∙ o.there in
            let e : last ≡ o.entry = cc in
            let who : session ≡ o.entry.session = ap (λ (x : Entry). x.session) e in
            let not : (o.entry.session == session) ≡ false = o.other in
            differs session o.entry.session who not
          where
            differs : (a b : ℕ) → a ≡ b → (b == a) ≡ false → ⊥
            differs a b e f = grind (arith, nat_tests)

        lag : IsLagAt l O longer session reference (record { reference = q.reference; last = number; ahead = xs })
        lag = record {
          at = h.at;
          low = omega (arith, h.low, end, num);
          within = omega (arith, size, num);
          none_sent = ap (commits_by session) (drop_all number longer (omega (arith, size, num)));
          ahead = end_later l O longer session reference q.last number xs (omega (arith, end, num)) own over;
        }
