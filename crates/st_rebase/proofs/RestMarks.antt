-- What is left of a step's row, mark by mark, is what is left of it cell by cell.
use Rattle.std.proofs.Common.{◌≡◌, ◌<◌, ◌+◌, ℕ, zero, suc, Bool, true, false, cond, List, [], ◌∷◌, ◌++◌, map, length, take, get_or, refl, sym, ap, ◌∙◌}
use Rattle.std.proofs.lemmas.List.{take_more, map-append}
use Rattle.st_kind.specs.Named.{Nodes}
use Rattle.st_marks.specs.declared.marks.How.TheVariants.{Stay, Here, Leave}
use Rattle.st_marks.specs.declared.marks.Mark.{Mark}
use Rattle.st_marks.specs.Row.{CellMark, Counted, Gap, Touch, Fill, spread, counted_cells, merge}
use Rattle.st_rows.specs.Merged.{begins_with_skip}
use Rattle.st_rows.specs.Merged.{IsMerged, is_skip}
use Rattle.st_rows.proofs.MergedMarks.{AllStand, Stands, merged-stands, stands-merge}
use Rattle.st_rebase.specs.Rest.{rest_row}
use Rattle.st_rebase.specs.inside.Marks.{rest_of}

module _ (m : Nodes) where
  left-counted : (k : ℕ) (xs : List CellMark) → rest_row m (counted_cells k xs) ≡ counted_cells k (rest_row m xs)
  left-counted zero xs = refl
  left-counted (suc k) xs = ap (λ l. Counted ∷ l) (left-counted k xs)

  -- the cells are those that are left
  pub rest_of-spread : (ms : List Mark) → spread (map (rest_of m) ms) ≡ rest_row m (spread ms)
  rest_of-spread [] = refl
  rest_of-spread (Mark.Skip k ∷ ms) = ap (counted_cells k) (rest_of-spread ms) ∙ sym (left-counted k (spread ms))
  rest_of-spread (Mark.Gap c ∷ ms) = ap (λ l. Gap c ∷ l) (rest_of-spread ms)
  rest_of-spread (Mark.Touch c n Stay ∷ ms) = ap (λ l. Touch c n Stay ∷ l) (rest_of-spread ms)
  rest_of-spread (Mark.Touch c n Here ∷ ms) = ap (λ l. Touch c n Stay ∷ l) (rest_of-spread ms)
  rest_of-spread (Mark.Touch c n Leave ∷ ms) = go (m n) (rest_of-spread ms)
    where
      go : (b : Bool) → spread (map (rest_of m) ms) ≡ rest_row m (spread ms) → spread (cond b (Mark.Gap c) (Mark.Touch c n Leave) ∷ map (rest_of m) ms) ≡ cond b (Gap c) (Touch c n Leave) ∷ rest_row m (spread ms)
      go true e = ap (λ l. Gap c ∷ l) e
      go false e = ap (λ l. Touch c n Leave ∷ l) e
  rest_of-spread (Mark.Make c n true ∷ ms) = go (m n) (rest_of-spread ms)
    where
      go : (b : Bool) → spread (map (rest_of m) ms) ≡ rest_row m (spread ms) → spread (cond b (Mark.Touch c n Stay) (Mark.Fill c n) ∷ map (rest_of m) ms) ≡ cond b (Touch c n Stay) (Fill c n) ∷ rest_row m (spread ms)
      go true e = ap (λ l. Touch c n Stay ∷ l) e
      go false e = ap (λ l. Fill c n ∷ l) e
  rest_of-spread (Mark.Make c n false ∷ ms) = ap (λ l. Gap c ∷ l) (rest_of-spread ms)
  rest_of-spread (Mark.Fill c n ∷ ms) = go (m n) (rest_of-spread ms)
    where
      go : (b : Bool) → spread (map (rest_of m) ms) ≡ rest_row m (spread ms) → spread (cond b (Mark.Touch c n Stay) (Mark.Fill c n) ∷ map (rest_of m) ms) ≡ cond b (Touch c n Stay) (Fill c n) ∷ rest_row m (spread ms)
      go true e = ap (λ l. Touch c n Stay ∷ l) e
      go false e = ap (λ l. Fill c n ∷ l) e

  same_kind : (x : Mark) → is_skip (rest_of m x) ≡ is_skip x
  same_kind (Mark.Skip k) = refl
  same_kind (Mark.Gap c) = refl
  same_kind (Mark.Touch c n Stay) = refl
  same_kind (Mark.Touch c n Here) = refl
  same_kind (Mark.Touch c n Leave) = elim (m n) as (λ b. is_skip (cond b (Mark.Gap c) (Mark.Touch c n Leave)) ≡ false) [ true ↦ refl | false ↦ refl ]
  same_kind (Mark.Make c n true) = elim (m n) as (λ b. is_skip (cond b (Mark.Touch c n Stay) (Mark.Fill c n)) ≡ false) [ true ↦ refl | false ↦ refl ]
  same_kind (Mark.Make c n false) = refl
  same_kind (Mark.Fill c n) = elim (m n) as (λ b. is_skip (cond b (Mark.Touch c n Stay) (Mark.Fill c n)) ≡ false) [ true ↦ refl | false ↦ refl ]

  same_begin : (ms : List Mark) → begins_with_skip (map (rest_of m) ms) ≡ begins_with_skip ms
  same_begin [] = refl
  same_begin (x ∷ ms) = same_kind x

  left_stands : (x : Mark) (ms : List Mark) → Stands x ms → Stands (rest_of m x) (map (rest_of m) ms)
  left_stands (Mark.Skip zero) ms h = absurd h
  left_stands (Mark.Skip (suc k)) ms h = same_begin ms ∙ h
  left_stands (Mark.Gap c) ms h = tt
  left_stands (Mark.Touch c n Stay) ms h = tt
  left_stands (Mark.Touch c n Here) ms h = tt
  left_stands (Mark.Touch c n Leave) ms h = elim (m n) as (λ b. Stands (cond b (Mark.Gap c) (Mark.Touch c n Leave)) (map (rest_of m) ms)) [ true ↦ tt | false ↦ tt ]
  left_stands (Mark.Make c n true) ms h = elim (m n) as (λ b. Stands (cond b (Mark.Touch c n Stay) (Mark.Fill c n)) (map (rest_of m) ms)) [ true ↦ tt | false ↦ tt ]
  left_stands (Mark.Make c n false) ms h = tt
  left_stands (Mark.Fill c n) ms h = elim (m n) as (λ b. Stands (cond b (Mark.Touch c n Stay) (Mark.Fill c n)) (map (rest_of m) ms)) [ true ↦ tt | false ↦ tt ]

  all_stand : (ms : List Mark) → AllStand ms → AllStand (map (rest_of m) ms)
  all_stand [] h = tt
  all_stand (x ∷ ms) h = (left_stands x ms h.0, all_stand ms h.1)

  -- of marks in their normal form the rest is in its own
  pub rest_merged : (ms rest : List Mark) → rest ≡ map (rest_of m) ms → IsMerged ms → rest ≡ merge (rest_row m (spread ms))
  rest_merged ms rest e h = e ∙ sym (stands-merge (map (rest_of m) ms) (all_stand ms (merged-stands ms h))) ∙ ap merge (rest_of-spread ms)

-- one mark more
pub each_more : {A B : Type 0} (f : A → B) (xs : List A) (i : ℕ) (d : A) (out new : List B) (r : B) → i < length xs → out ≡ map f (take i xs) → r ≡ f (get_or xs i d) → new ≡ out ++ r ∷ [] → new ≡ map f (take (i + 1) xs)
each_more f xs i d out new r l e g h =
    h ∙ (λ j. e j ++ g j ∷ []) ∙ sym (map-append f (take i xs) (get_or xs i d ∷ [])) ∙ ap (map f) (sym (take_more xs i d l))
