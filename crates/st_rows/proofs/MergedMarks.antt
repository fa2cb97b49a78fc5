-- Marks in their normal form, and one mark more.
use Rattle.std.proofs.Common.{subst, ◌≡◌, ◌<◌, ℕ, zero, suc, ◌+◌, Bool, true, false, List, [], ◌∷◌, ◌++◌, refl, sym, ap, ◌∙◌, arith, Some, None, length, take, slice_get, ◌-◌, append_assoc, length-append, is_some}
use Rattle.std.specs.Option.{option_to_list}
use Rattle.st_marks.proofs.MarkLengths.{spread-append}
use Rattle.st_marks.specs.declared.marks.Mark.{Mark}
use Rattle.st_marks.specs.Row.{CellMark, Counted, Gap, Touch, Make, Fill, spread, counted_cells, merge, skip_one}
use Rattle.st_rows.specs.Merged.{begins_with_skip}
use Rattle.st_rows.specs.Merged.{IsMerged, is_skip, count_in}

-- ## Told mark by mark

-- a mark that counts cells counts some, and stands before none of its kind
abbrev pub Stands : Mark → List Mark → Type 0
Stands (Mark.Skip zero) ms = ⊥
Stands (Mark.Skip (suc k)) ms = begins_with_skip ms ≡ false
Stands (Mark.Gap c) ms = Unit {0}
Stands (Mark.Touch c n h) ms = Unit {0}
Stands (Mark.Make c n b) ms = Unit {0}
Stands (Mark.Fill c n) ms = Unit {0}

abbrev pub AllStand : List Mark → Type 0
AllStand [] = Unit {0}
AllStand (m ∷ ms) = Stands m ms × AllStand ms

pub skip_one-stands : (ms : List Mark) → AllStand ms → AllStand (skip_one ms)
skip_one-stands [] h = (refl, tt)
skip_one-stands (Mark.Skip zero ∷ ms) h = absurd h.0
skip_one-stands (Mark.Skip (suc k) ∷ ms) h = h
skip_one-stands (Mark.Gap c ∷ ms) h = (refl, h)
skip_one-stands (Mark.Touch c n x ∷ ms) h = (refl, h)
skip_one-stands (Mark.Make c n b ∷ ms) h = (refl, h)
skip_one-stands (Mark.Fill c n ∷ ms) h = (refl, h)

pub merge-stands : (ms : List CellMark) → AllStand (merge ms)
merge-stands [] = tt
merge-stands (Counted ∷ ms) = skip_one-stands (merge ms) (merge-stands ms)
merge-stands (Gap c ∷ ms) = (tt, merge-stands ms)
merge-stands (Touch c n h ∷ ms) = (tt, merge-stands ms)
merge-stands (Make c n b ∷ ms) = (tt, merge-stands ms)
merge-stands (Fill c n ∷ ms) = (tt, merge-stands ms)

pub skip_first : (ms : List Mark) → begins_with_skip ms ≡ false → skip_one ms ≡ Mark.Skip 1 ∷ ms
skip_first [] h = refl
skip_first (Mark.Skip k ∷ ms) h = let e : ◌≡◌ {A = Bool} true false = h in cc
skip_first (Mark.Gap c ∷ ms) h = refl
skip_first (Mark.Touch c n x ∷ ms) h = refl
skip_first (Mark.Make c n b ∷ ms) h = refl
skip_first (Mark.Fill c n ∷ ms) h = refl

pub merge-counted : (k : ℕ) (cells : List CellMark) (ms : List Mark) → merge cells ≡ ms → begins_with_skip ms ≡ false → merge (counted_cells (suc k) cells) ≡ Mark.Skip (suc k) ∷ ms
merge-counted zero cells ms e h = ap skip_one e ∙ skip_first ms h
merge-counted (suc k) cells ms e h = ap skip_one (merge-counted k cells ms e h)

pub stands-merge : (ms : List Mark) → AllStand ms → merge (spread ms) ≡ ms
stands-merge [] h = refl
stands-merge (Mark.Skip zero ∷ ms) h = absurd h.0
stands-merge (Mark.Skip (suc k) ∷ ms) h = merge-counted k (spread ms) ms (stands-merge ms h.1) h.0
stands-merge (Mark.Gap c ∷ ms) h = ap (λ l. Mark.Gap c ∷ l) (stands-merge ms h.1)
stands-merge (Mark.Touch c n x ∷ ms) h = ap (λ l. Mark.Touch c n x ∷ l) (stands-merge ms h.1)
stands-merge (Mark.Make c n b ∷ ms) h = ap (λ l. Mark.Make c n b ∷ l) (stands-merge ms h.1)
stands-merge (Mark.Fill c n ∷ ms) h = ap (λ l. Mark.Fill c n ∷ l) (stands-merge ms h.1)

pub merged-stands : (ms : List Mark) → IsMerged ms → AllStand ms
merged-stands ms h = subst AllStand h (merge-stands (spread ms))

-- ## Counts

pub counted-plus : (j k : ℕ) (xs : List CellMark) → counted_cells (j + k) xs ≡ counted_cells j (counted_cells k xs)
counted-plus zero k xs = let e : zero + k ≡ k = omega arith in rw e refl
counted-plus (suc j) k xs = let e : suc j + k ≡ suc (j + k) = omega arith in rw e (ap (λ l. Counted ∷ l) (counted-plus j k xs))

pub length-counted : (k : ℕ) (xs : List CellMark) → length (counted_cells k xs) ≡ k + length xs
length-counted zero xs = omega arith
length-counted (suc k) xs = omega (arith, length-counted k xs)

-- one count in place of one that was taken off and one more
pub count_more : (front old : List Mark) (j k : ℕ) → spread old ≡ spread front ++ counted_cells j [] → spread (front ++ Mark.Skip (j + k) ∷ []) ≡ spread old ++ counted_cells k []
count_more front old j k e =
    spread-append front (Mark.Skip (j + k) ∷ [])
    ∙ ap (λ l. spread front ++ l) (counted-plus j k [] ∙ spread-append (Mark.Skip j ∷ []) (Mark.Skip k ∷ []))
    ∙ sym (append_assoc (spread front) (counted_cells j []) (counted_cells k []))
    ∙ ap (λ l. l ++ counted_cells k []) (sym e)

-- and it fits where there is room for its cells
pub count_room : (front old : List Mark) (j k n : ℕ) → spread old ≡ spread front ++ counted_cells j [] → length (spread old) + k < n → j + k < n
count_room front old j k n e h =
    let a : length (spread old) ≡ length (spread front) + (j + 0) = ap length e ∙ length-append (spread front) (counted_cells j []) ∙ ap (λ l. length (spread front) + l) (length-counted j []) in
    omega arith

-- ## One mark more at the end

-- the last mark, if it counts cells, is another count in its place
pub recounted : (xs : List Mark) (j k : ℕ) → AllStand (xs ++ Mark.Skip j ∷ []) → 0 < k → AllStand (xs ++ Mark.Skip k ∷ [])
recounted [] j zero h p = absurd (omega (arith, p))
recounted [] j (suc k) h p = (refl, tt)
recounted (x ∷ xs) j k h p = (first x xs h.0, recounted xs j k h.1 p)
  where
    begins : (ys : List Mark) → begins_with_skip (ys ++ Mark.Skip j ∷ []) ≡ begins_with_skip (ys ++ Mark.Skip k ∷ [])
    begins [] = refl
    begins (y ∷ ys) = refl

    first : (m : Mark) (ys : List Mark) → Stands m (ys ++ Mark.Skip j ∷ []) → Stands m (ys ++ Mark.Skip k ∷ [])
    first (Mark.Skip zero) ys s = s
    first (Mark.Skip (suc i)) ys s = sym (begins ys) ∙ s
    first (Mark.Gap c) ys s = tt
    first (Mark.Touch c n x) ys s = tt
    first (Mark.Make c n b) ys s = tt
    first (Mark.Fill c n) ys s = tt

pub recounted_merged : (xs : List Mark) (j k : ℕ) → IsMerged (xs ++ Mark.Skip j ∷ []) → 0 < k → IsMerged (xs ++ Mark.Skip k ∷ [])
recounted_merged xs j k h p = stands-merge (xs ++ Mark.Skip k ∷ []) (recounted xs j k (merged-stands (xs ++ Mark.Skip j ∷ []) h) p)

-- a mark that counts no cells stands behind every mark
pub behind : (xs : List Mark) (m : Mark) → is_skip m ≡ false → AllStand xs → AllStand (xs ++ m ∷ [])
behind [] m s h = (alone m s, tt)
  where
    alone : (m : Mark) → is_skip m ≡ false → Stands m []
    alone (Mark.Skip k) s = cc
    alone (Mark.Gap c) s = tt
    alone (Mark.Touch c n x) s = tt
    alone (Mark.Make c n b) s = tt
    alone (Mark.Fill c n) s = tt
behind (x ∷ xs) m s h = (first x xs h.0, behind xs m s h.1)
  where
    begins : (ys : List Mark) → begins_with_skip ys ≡ false → begins_with_skip (ys ++ m ∷ []) ≡ false
    begins [] e = s
    begins (y ∷ ys) e = e

    first : (x : Mark) (ys : List Mark) → Stands x ys → Stands x (ys ++ m ∷ [])
    first (Mark.Skip zero) ys k = k
    first (Mark.Skip (suc i)) ys k = begins ys k
    first (Mark.Gap c) ys k = tt
    first (Mark.Touch c n h) ys k = tt
    first (Mark.Make c n b) ys k = tt
    first (Mark.Fill c n) ys k = tt

pub behind_merged : (xs : List Mark) (m : Mark) → is_skip m ≡ false → IsMerged xs → IsMerged (xs ++ m ∷ [])
behind_merged xs m s h = stands-merge (xs ++ m ∷ []) (behind xs m s (merged-stands xs h))

-- a count stands behind a mark that counts no cells
pub counted-behind : (xs : List Mark) (m : Mark) (k : ℕ) → is_skip m ≡ false → AllStand (xs ++ m ∷ []) → 0 < k → AllStand ((xs ++ m ∷ []) ++ Mark.Skip k ∷ [])
counted-behind [] m zero s h p = absurd (omega (arith, p))
counted-behind [] m (suc k) s h p = (alone m s, (refl, tt))
  where
    alone : (m : Mark) → is_skip m ≡ false → Stands m (Mark.Skip (suc k) ∷ [])
    alone (Mark.Skip k) s = cc
    alone (Mark.Gap c) s = tt
    alone (Mark.Touch c n x) s = tt
    alone (Mark.Make c n b) s = tt
    alone (Mark.Fill c n) s = tt
counted-behind (x ∷ xs) m k s h p = (first x xs h.0, counted-behind xs m k s h.1 p)
  where
    begins : (ys : List Mark) → begins_with_skip (ys ++ m ∷ []) ≡ begins_with_skip ((ys ++ m ∷ []) ++ Mark.Skip k ∷ [])
    begins [] = refl
    begins (y ∷ ys) = refl

    first : (x : Mark) (ys : List Mark) → Stands x (ys ++ m ∷ []) → Stands x ((ys ++ m ∷ []) ++ Mark.Skip k ∷ [])
    first (Mark.Skip zero) ys e = e
    first (Mark.Skip (suc i)) ys e = sym (begins ys) ∙ e
    first (Mark.Gap c) ys e = tt
    first (Mark.Touch c n h) ys e = tt
    first (Mark.Make c n b) ys e = tt
    first (Mark.Fill c n) ys e = tt

pub counted_merged : (xs : List Mark) (m : Mark) (k : ℕ) → is_skip m ≡ false → IsMerged (xs ++ m ∷ []) → 0 < k → IsMerged ((xs ++ m ∷ []) ++ Mark.Skip k ∷ [])
counted_merged xs m k s h p = stands-merge ((xs ++ m ∷ []) ++ Mark.Skip k ∷ []) (counted-behind xs m k s (merged-stands (xs ++ m ∷ []) h) p)

pub counted_alone : (k : ℕ) → 0 < k → IsMerged (Mark.Skip k ∷ [])
counted_alone zero p = absurd (omega (arith, p))
counted_alone (suc k) p = stands-merge (Mark.Skip (suc k) ∷ []) (refl, tt)

-- ## The last mark

last_at : {A : Type 0} (x m : A) (xs : List A) → slice_get (x ∷ xs) (length xs) ≡ Some m → x ∷ xs ≡ take (length xs) (x ∷ xs) ++ m ∷ []
last_at x m [] e = ap (λ o. option_to_list o) e
last_at x m (y ∷ xs) e = ap (λ l. x ∷ l) (last_at y m xs e)

last_item : {A : Type 0} (xs : List A) (m : A) → slice_get xs (length xs - 1) ≡ Some m → xs ≡ take (length xs - 1) xs ++ m ∷ []
last_item [] m e = cc
last_item (x ∷ xs) m e =
    let i : length (x ∷ xs) - 1 ≡ length xs = omega arith in
    subst (λ k. slice_get (x ∷ xs) k ≡ Some m → x ∷ xs ≡ take k (x ∷ xs) ++ m ∷ []) (sym i) (last_at x m xs) e

no_at : {A : Type 0} (x : A) (xs : List A) → slice_get (x ∷ xs) (length xs) ≡ None → ⊥
no_at x [] e = cc
no_at x (y ∷ xs) e = no_at y xs e

no_item : {A : Type 0} (xs : List A) → slice_get xs (length xs - 1) ≡ None → xs ≡ []
no_item [] e = refl
no_item (x ∷ xs) e =
    let i : length (x ∷ xs) - 1 ≡ length xs = omega arith in
    absurd (no_at x xs (subst (λ k. slice_get (x ∷ xs) k ≡ None) i e))

counts : (m : Mark) (k : ℕ) → count_in m ≡ Some k → m ≡ Mark.Skip k
counts (Mark.Skip j) k e = cc
counts (Mark.Gap c) k e = cc
counts (Mark.Touch c n h) k e = cc
counts (Mark.Make c n b) k e = cc
counts (Mark.Fill c n) k e = cc

-- a count was taken off
pub counted_taken : (old new : List Mark) (m : Mark) (k : ℕ) → IsMerged old → slice_get old (length old - 1) ≡ Some m → count_in m ≡ Some k → new ≡ take (length old - 1) old
    → (spread old ≡ spread new ++ counted_cells k []) × ((i : ℕ) → 0 < i → IsMerged (new ++ Mark.Skip i ∷ []))
counted_taken old new m k h e c f =
    let is : old ≡ new ++ Mark.Skip k ∷ [] = last_item old m e ∙ (λ i. sym f i ++ counts m k c i ∷ []) in (
      ap spread is ∙ spread-append new (Mark.Skip k ∷ []),
      λ i p. recounted_merged new k i (subst IsMerged is h) p,
    )

-- none was there
pub none_taken : (old : List Mark) (m : Mark) → IsMerged old → slice_get old (length old - 1) ≡ Some m → count_in m ≡ None → (i : ℕ) → 0 < i → IsMerged (old ++ Mark.Skip i ∷ [])
none_taken old m h e c i p =
    let is : old ≡ take (length old - 1) old ++ m ∷ [] = last_item old m e in
    subst (λ l. IsMerged (l ++ Mark.Skip i ∷ [])) (sym is) (counted_merged (take (length old - 1) old) m i (ap is_some c) (subst IsMerged is h) p)

pub none_there : (old : List Mark) → slice_get old (length old - 1) ≡ None → (i : ℕ) → 0 < i → IsMerged (old ++ Mark.Skip i ∷ [])
none_there old e i p = subst (λ l. IsMerged (l ++ Mark.Skip i ∷ [])) (sym (no_item old e)) (counted_alone i p)

-- merged marks are those of their cells
pub merged_is : (ms : List Mark) (cells : List CellMark) → IsMerged ms → spread ms ≡ cells → ms ≡ merge cells
merged_is ms cells h e = sym h ∙ ap merge e
