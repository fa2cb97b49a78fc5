-- Marks of a row, and the same cell by cell.
use Rattle.std.proofs.Common.{◌≡◌, ℕ, zero, suc, List, [], ◌∷◌, ap, sym, refl, subst, inl, inr}
use Rattle.st_ids.specs.Listing.{Has}
use Rattle.st_marks.specs.declared.marks.Mark.{Mark}
use Rattle.st_marks.specs.Row.{CellMark, Counted, Fill, Gap, Make, Touch, counted_cells, spread}

-- the mark of one cell
abbrev pub as_mark : CellMark → Mark
as_mark Counted = Mark.Skip 1
as_mark (Gap c) = Mark.Gap c
as_mark (Touch c n h) = Mark.Touch c n h
as_mark (Make c n b) = Mark.Make c n b
as_mark (Fill c n) = Mark.Fill c n

behind : (k : ℕ) (xs : List CellMark) (x : CellMark) → Has xs x → Has (counted_cells k xs) x
behind zero xs x h = h
behind (suc k) xs x h = inr (behind k xs x h)

before : (k : ℕ) (xs : List CellMark) (x : CellMark) → (x ≡ Counted → ⊥) → Has (counted_cells k xs) x → Has xs x
before zero xs x d h = h
before (suc k) xs x d (inl e) = absurd (d (sym e))
before (suc k) xs x d (inr h) = before k xs x d h

further : (m : Mark) (ms : List Mark) (x : CellMark) → Has (spread ms) x → Has (spread (m ∷ ms)) x
further (Mark.Skip k) ms x h = behind k (spread ms) x h
further (Mark.Gap c) ms x h = inr h
further (Mark.Touch c n k) ms x h = inr h
further (Mark.Make c n b) ms x h = inr h
further (Mark.Fill c n) ms x h = inr h

here : (m : Mark) (ms : List Mark) (x : CellMark) → (x ≡ Counted → ⊥) → m ≡ as_mark x → Has (spread (m ∷ ms)) x
here m ms Counted d e = absurd (d refl)
here m ms (Gap c) d e = subst (λ (m : Mark). Has (spread (m ∷ ms)) (Gap c)) (sym e) (inl refl)
here m ms (Touch c n h) d e = subst (λ (m : Mark). Has (spread (m ∷ ms)) (Touch c n h)) (sym e) (inl refl)
here m ms (Make c n b) d e = subst (λ (m : Mark). Has (spread (m ∷ ms)) (Make c n b)) (sym e) (inl refl)
here m ms (Fill c n) d e = subst (λ (m : Mark). Has (spread (m ∷ ms)) (Fill c n)) (sym e) (inl refl)

pub in-spread : (ms : List Mark) (x : CellMark) → (x ≡ Counted → ⊥) → Has ms (as_mark x) → Has (spread ms) x
in-spread [] x d h = absurd h
in-spread (m ∷ ms) x d (inl e) = here m ms x d e
in-spread (m ∷ ms) x d (inr h) = further m ms x (in-spread ms x d h)

pub from-spread : (ms : List Mark) (x : CellMark) → (x ≡ Counted → ⊥) → Has (spread ms) x → Has ms (as_mark x)
from-spread [] x d h = absurd h
from-spread (Mark.Skip k ∷ ms) x d h = inr (from-spread ms x d (before k (spread ms) x d h))
from-spread (Mark.Gap c ∷ ms) x d (inl e) = inl (ap as_mark e)
from-spread (Mark.Gap c ∷ ms) x d (inr h) = inr (from-spread ms x d h)
from-spread (Mark.Touch c n k ∷ ms) x d (inl e) = inl (ap as_mark e)
from-spread (Mark.Touch c n k ∷ ms) x d (inr h) = inr (from-spread ms x d h)
from-spread (Mark.Make c n b ∷ ms) x d (inl e) = inl (ap as_mark e)
from-spread (Mark.Make c n b ∷ ms) x d (inr h) = inr (from-spread ms x d h)
from-spread (Mark.Fill c n ∷ ms) x d (inl e) = inl (ap as_mark e)
from-spread (Mark.Fill c n ∷ ms) x d (inr h) = inr (from-spread ms x d h)
