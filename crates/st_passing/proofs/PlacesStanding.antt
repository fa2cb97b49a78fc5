-- Marks in their normal form, with one cell counted more. The first part is as in `st_seq/proofs/Merging`, where it isn't public.
use Rattle.std.proofs.Common.{subst, ◌≡◌, ℕ, zero, suc, ◌+◌, Bool, true, false, List, [], ◌∷◌, ◌++◌, refl, sym, ap, ◌∙◌, arith, insert, slice_set}
use Rattle.st_marks.specs.declared.marks.Mark.{Mark}
use Rattle.st_marks.specs.Row.{CellMark, Counted, Gap, Touch, Make, Fill, spread, counted_cells, merge, skip_one}
use Rattle.st_rows.specs.Merged.{begins_with_skip}
use Rattle.st_rows.specs.Merged.{IsMerged}
use Rattle.st_passing.specs.declared.raise.Seat.{Seat}
use Rattle.st_passing.specs.Raising.{IsSeat, last_counts}
use Rattle.st_passing.proofs.Seats.{put_at, set_at}

-- ## Told mark by mark

-- a mark that counts cells counts some, and stands before none of its kind
abbrev pub Stands : Mark → List Mark → Type 0
Stands (Mark.Skip zero) ms = ⊥
Stands (Mark.Skip (suc k)) ms = begins_with_skip ms ≡ false
Stands (Mark.Gap c) ms = Unit {0}
Stands (Mark.Touch c n h) ms = Unit {0}
Stands (Mark.Make c n b) ms = Unit {0}
Stands (Mark.Fill c n) ms = Unit {0}

abbrev pub AllStand : List Mark → Type 0
AllStand [] = Unit {0}
AllStand (m ∷ ms) = Stands m ms × AllStand ms

skip_one-stands : (ms : List Mark) → AllStand ms → AllStand (skip_one ms)
skip_one-stands [] h = (refl, tt)
skip_one-stands (Mark.Skip zero ∷ ms) h = absurd h.0
skip_one-stands (Mark.Skip (suc k) ∷ ms) h = h
skip_one-stands (Mark.Gap c ∷ ms) h = (refl, h)
skip_one-stands (Mark.Touch c n x ∷ ms) h = (refl, h)
skip_one-stands (Mark.Make c n b ∷ ms) h = (refl, h)
skip_one-stands (Mark.Fill c n ∷ ms) h = (refl, h)

merge-stands : (ms : List CellMark) → AllStand (merge ms)
merge-stands [] = tt
merge-stands (Counted ∷ ms) = skip_one-stands (merge ms) (merge-stands ms)
merge-stands (Gap c ∷ ms) = (tt, merge-stands ms)
merge-stands (Touch c n h ∷ ms) = (tt, merge-stands ms)
merge-stands (Make c n b ∷ ms) = (tt, merge-stands ms)
merge-stands (Fill c n ∷ ms) = (tt, merge-stands ms)

skip_first : (ms : List Mark) → begins_with_skip ms ≡ false → skip_one ms ≡ Mark.Skip 1 ∷ ms
skip_first [] h = refl
skip_first (Mark.Skip k ∷ ms) h = let e : ◌≡◌ {A = Bool} true false = h in cc
skip_first (Mark.Gap c ∷ ms) h = refl
skip_first (Mark.Touch c n x ∷ ms) h = refl
skip_first (Mark.Make c n b ∷ ms) h = refl
skip_first (Mark.Fill c n ∷ ms) h = refl

merge-counted : (k : ℕ) (cells : List CellMark) (ms : List Mark) → merge cells ≡ ms → begins_with_skip ms ≡ false → merge (counted_cells (suc k) cells) ≡ Mark.Skip (suc k) ∷ ms
merge-counted zero cells ms e h = ap skip_one e ∙ skip_first ms h
merge-counted (suc k) cells ms e h = ap skip_one (merge-counted k cells ms e h)

stands-merge : (ms : List Mark) → AllStand ms → merge (spread ms) ≡ ms
stands-merge [] h = refl
stands-merge (Mark.Skip zero ∷ ms) h = absurd h.0
stands-merge (Mark.Skip (suc k) ∷ ms) h = merge-counted k (spread ms) ms (stands-merge ms h.1) h.0
stands-merge (Mark.Gap c ∷ ms) h = ap (λ l. Mark.Gap c ∷ l) (stands-merge ms h.1)
stands-merge (Mark.Touch c n x ∷ ms) h = ap (λ l. Mark.Touch c n x ∷ l) (stands-merge ms h.1)
stands-merge (Mark.Make c n b ∷ ms) h = ap (λ l. Mark.Make c n b ∷ l) (stands-merge ms h.1)
stands-merge (Mark.Fill c n ∷ ms) h = ap (λ l. Mark.Fill c n ∷ l) (stands-merge ms h.1)

merged-stands : (ms : List Mark) → IsMerged ms → AllStand ms
merged-stands ms h = subst AllStand h (merge-stands (spread ms))

-- ## One cell more

recount : (front more : List Mark) (k : ℕ) → AllStand (front ++ Mark.Skip k ∷ more) → AllStand (front ++ Mark.Skip (suc k) ∷ more)
recount [] more zero h = absurd h.0
recount [] more (suc k) h = h
recount (x ∷ front) more k h = (first x front h.0, recount front more k h.1)
  where
    begins : (ys : List Mark) → begins_with_skip (ys ++ Mark.Skip k ∷ more) ≡ begins_with_skip (ys ++ Mark.Skip (suc k) ∷ more)
    begins [] = refl
    begins (y ∷ ys) = refl

    first : (x : Mark) (ys : List Mark) → Stands x (ys ++ Mark.Skip k ∷ more) → Stands x (ys ++ Mark.Skip (suc k) ∷ more)
    first (Mark.Skip zero) ys s = s
    first (Mark.Skip (suc i)) ys s = sym (begins ys) ∙ s
    first (Mark.Gap c) ys s = tt
    first (Mark.Touch c n i) ys s = tt
    first (Mark.Make c n b) ys s = tt
    first (Mark.Fill c n) ys s = tt

one_new : (front rest : List Mark) → AllStand (front ++ rest) → last_counts front ≡ 0 → begins_with_skip rest ≡ false → AllStand (front ++ Mark.Skip 1 ∷ rest)
one_new [] rest h e b = (b, h)
one_new (x ∷ []) rest h e b = (first x h.0 e, (b, h.1))
  where
    first : (x : Mark) → Stands x rest → last_counts (x ∷ []) ≡ 0 → Stands x (Mark.Skip 1 ∷ rest)
    first (Mark.Skip zero) s e = absurd s
    first (Mark.Skip (suc i)) s e = absurd (omega (arith, e))
    first (Mark.Gap c) s e = tt
    first (Mark.Touch c n i) s e = tt
    first (Mark.Make c n b) s e = tt
    first (Mark.Fill c n) s e = tt
one_new (x ∷ (y ∷ front)) rest h e b = (first x h.0, one_new (y ∷ front) rest h.1 e b)
  where
    first : (x : Mark) → Stands x (y ∷ (front ++ rest)) → Stands x (y ∷ (front ++ Mark.Skip 1 ∷ rest))
    first (Mark.Skip zero) s = s
    first (Mark.Skip (suc i)) s = s
    first (Mark.Gap c) s = tt
    first (Mark.Touch c n i) s = tt
    first (Mark.Make c n b) s = tt
    first (Mark.Fill c n) s = tt

pub raised_merged : (ms : List Mark) (zs : List CellMark) (i k : ℕ) → IsSeat ms zs (Seat.In i k) → IsMerged ms → IsMerged (slice_set ms i (Mark.Skip (k + 1)))
raised_merged ms zs i k s h =
    let n : k + 1 ≡ suc k = omega arith in
    let is : slice_set ms i (Mark.Skip (k + 1)) ≡ s.0 ++ Mark.Skip (suc k) ∷ s.1 = (λ j. slice_set (s.2 j) (sym s.3 j) (Mark.Skip (n j))) ∙ set_at s.0 s.1 (Mark.Skip k) (Mark.Skip (suc k)) in
    subst IsMerged (sym is) (stands-merge (s.0 ++ Mark.Skip (suc k) ∷ s.1) (recount s.0 s.1 k (subst AllStand s.2 (merged-stands ms h))))

pub made_merged : (ms new : List Mark) (zs : List CellMark) (i : ℕ) → IsSeat ms zs (Seat.Before i) → new ≡ insert ms i (Mark.Skip 1) → IsMerged ms → IsMerged new
made_merged ms new zs i s e h =
    let is : new ≡ s.0 ++ Mark.Skip 1 ∷ s.1 = e ∙ (λ j. insert (s.2 j) (sym s.3 j) (Mark.Skip 1)) ∙ put_at s.0 s.1 (Mark.Skip 1) in
    subst IsMerged (sym is) (stands-merge (s.0 ++ Mark.Skip 1 ∷ s.1) (one_new s.0 s.1 (subst AllStand s.2 (merged-stands ms h)) s.5 s.6))
