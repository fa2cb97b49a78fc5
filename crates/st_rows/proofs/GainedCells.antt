-- The cells that a row gains: they weren't there before; and those that a document has.
use Rattle.std.proofs.Common.{◌≢◌, ◌∷◌, List, refl, sym, ◌∙◌, inl, inr}
use Rattle.st_ids.specs.declared.names.NodeId.{NodeId}
use Rattle.st_marks.specs.declared.intents.Owned.{Owned}
use Rattle.st_marks.specs.Document.{Document, content, slot}
use Rattle.st_ids.specs.Listing.{AreDistinct, Has}
use Rattle.st_marks.specs.declared.places.Slot.{Slot}
use Rattle.st_marks.specs.Extends.{GainsItems, no_more, item_gained, item_kept}
use Rattle.st_marks.specs.Row.{SameCell}
use Rattle.st_marks.proofs.Members.{all-has, map-has}
use Rattle.st_rows.proofs.KindLaws.{has_grown, not_again}
use Rattle.st_rows.specs.Sequence.{cells_of}

-- what holds of each cell that is gained
abbrev pub AllGained : (Slot → Type 0) → {c d : List Slot} → GainsItems SameCell c d → Type 0
AllGained P no_more = Unit {0}
AllGained P (item_gained {y} g) = P y × AllGained P g
AllGained P (item_kept same g) = AllGained P g

pub weaker : (P Q : Slot → Type 0) → ((t : Slot) → P t → Q t) → {c d : List Slot} (g : GainsItems SameCell c d) → AllGained P g → AllGained Q g
weaker P Q f no_more h = tt
weaker P Q f (item_gained {y = t} g) h = (f t h.0, weaker P Q f g h.1)
weaker P Q f (item_kept a g) h = weaker P Q f g h

-- a cell that is gained wasn't there
pub gained_new : {c d : List Slot} (g : GainsItems SameCell c d) → AreDistinct (λ (s : Slot). s.cell) d → AllGained (λ t. (Has (cells_of c) t.cell → ⊥) × Has d t) g
gained_new no_more o = tt
gained_new (item_gained {y = t} {xs = c} {ys = d} g) o = (
  ((λ w. not_again d t.cell o.0 (has_grown g t.cell w)), inl refl),
  weaker (λ u. (Has (cells_of c) u.cell → ⊥) × Has d u) (λ u. (Has (cells_of c) u.cell → ⊥) × Has (t ∷ d) u) (λ u p. (p.0, inr p.1)) g (gained_new g o.1),
)
gained_new (item_kept {x = s} {y = t} {xs = c} {ys = d} a g) o =
    weaker (λ u. (Has (cells_of c) u.cell → ⊥) × Has d u) (λ u. (Has (cells_of (s ∷ c)) u.cell → ⊥) × Has (t ∷ d) u) (λ u p. ((λ w. not_here u p w), inr p.1)) g (gained_new g o.1)
  where
    not_here : (u : Slot) → (Has (cells_of c) u.cell → ⊥) × Has d u → Has (cells_of (s ∷ c)) u.cell → ⊥
    not_here u p (inl e) = all-has (λ (v : Slot). v.cell ≢ t.cell) d u o.0 p.1 (sym e ∙ a.0)
    not_here u p (inr w) = p.0 w

-- a cell that a document has in a row is one of those that the row holds
pub cell_there : (D : Document) (n : NodeId) (o : Owned) → Has (D.rows n) o → Has (cells_of (content D n)) o.cell
cell_there D n o w = map-has (λ (s : Slot). s.cell) (content D n) (slot D o) (map-has (slot D) (D.rows n) o w)
