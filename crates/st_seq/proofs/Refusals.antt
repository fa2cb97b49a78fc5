-- What is left where two listings of one row aren't apart.
use Rattle.std.proofs.Common.{◌≡◌, ◌<◌, ℕ, suc, List, [], ◌∷◌, Err, length, refl, ap, arith}
use Rattle.std.proofs.lemmas.List.{length-map}
use Rattle.st_ids.specs.declared.fault.Or.{Or}
use Rattle.st_ids.specs.declared.fault.Or.TheVariants.{Fault, NoMemory}
use Rattle.st_kind.specs.declared.apart.Apart.{Apart}
use Rattle.st_kind.specs.Refused.{IsApartWhere}
use Rattle.st_marks.specs.declared.places.Slot.{Slot}
use Rattle.st_marks.specs.Row.{CellMark}
use Rattle.st_marks.specs.Listings.{CellView, cell_view, cells_after, cells_before}
use Rattle.st_rows.specs.Views.{DifferAt, row_views}
use Rattle.st_rows.specs.Changes.{may_list}
use Rattle.st_rows.proofs.ShortRows.{all_after}
use Rattle.st_rows.proofs.WalkLengths.{found_length}

-- a refusal where there is nothing to refuse is want of memory
pub nothing_apart : (e : Or Apart) (D : ℕ → Type 0) → IsApartWhere {T = Unit {0}} (Err e) D → ((k : ℕ) → D k → ⊥) → e ≡ NoMemory
nothing_apart (Fault a) D h n = absurd (n a.place h.0)
nothing_apart NoMemory D h n = refl

-- two listings that differ nowhere are equally long
pub equally_long : (xs ys : List CellView) → ((k : ℕ) → DifferAt xs ys k → ⊥) → length xs ≡ length ys
equally_long [] [] h = refl
equally_long [] (y ∷ ys) h = absurd (h 0 tt)
equally_long (x ∷ xs) [] h = absurd (h 0 tt)
equally_long (x ∷ xs) (y ∷ ys) h = ap suc (equally_long xs ys (λ k d. h (suc k) d))

pub row_short : (c : List Slot) (ys : List CellMark) (most : ℕ) → ((k : ℕ) → DifferAt (row_views c) (cells_before ys) k → ⊥) → length ys < most → length c < most
row_short c ys most h l =
    let a : length (row_views c) ≡ length c = length-map c (λ (s : Slot). cell_view s.cell s.node s.full) in
    let b = equally_long (row_views c) (cells_before ys) h in
    let d = found_length ys in
    omega (arith, a, b, d, l)

pub before_short : (ys : List CellMark) (most : ℕ) → length ys < most → length (cells_before ys) < most
before_short ys most l = let d = found_length ys in omega (arith, d, l)

pub after_short : (xs : List CellMark) (most : ℕ) → length xs < most → length (cells_after xs) < most
after_short xs most l = let d = all_after xs in omega (arith, d, l)

pub beside_short : (xs ys : List CellMark) (most : ℕ) → ((k : ℕ) → DifferAt (cells_before xs) (cells_before ys) k → ⊥) → may_list xs ys < most → length (cells_before xs) < most
beside_short xs ys most h l = let b = equally_long (cells_before xs) (cells_before ys) h in omega (arith, b, l)
