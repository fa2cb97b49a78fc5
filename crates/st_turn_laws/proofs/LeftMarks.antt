-- What the marks of a row show before them and after them, node by node.
use Rattle.std.proofs.Common.{◌≡◌, Bool, true, false, List, [], ◌∷◌, refl, sym, ap, subst, inl, inr}
use Rattle.std.specs.List.{list_any}
use Rattle.st_ids.specs.Listing.{Has}
use Rattle.st_ids.specs.declared.names.CellId.{CellId}
use Rattle.st_ids.specs.declared.names.NodeId.{NodeId}
use Rattle.st_marks.specs.declared.marks.How.{How}
use Rattle.st_marks.specs.declared.marks.How.TheVariants.{Stay, Here, Leave}
use Rattle.st_marks.specs.declared.places.Slot.{Slot}
use Rattle.st_marks.specs.Embedding.{tells}
use Rattle.st_marks.specs.Extends.{GainsItems, no_more, item_gained, item_kept}
use Rattle.st_marks.specs.Row.{CellMark, Counted, Gap, Touch, Make, Fill, SameCell, step_row}
use Rattle.st_marks.specs.Listings.{cells_after, cells_before, nodes_standing}
use Rattle.st_normal.specs.Rules.{incoming_nodes}

-- who stands before is touched
pub standing-touched : (xs : List CellMark) (n : NodeId) → Has (nodes_standing (cells_before xs)) n → (a : CellId) × (h : How) × Has xs (Touch a n h)
standing-touched [] n i = absurd i
standing-touched (Counted ∷ xs) n i = let r = standing-touched xs n i in (r.0, r.1, inr r.2)
standing-touched (Gap c ∷ xs) n i = let r = standing-touched xs n i in (r.0, r.1, inr r.2)
standing-touched (Touch c k h ∷ xs) n (inl e) = (c, h, inl (ap (λ y. Touch c y h) e))
standing-touched (Touch c k h ∷ xs) n (inr i) = let r = standing-touched xs n i in (r.0, r.1, inr r.2)
standing-touched (Make c k b ∷ xs) n i = let r = standing-touched xs n i in (r.0, r.1, inr r.2)
standing-touched (Fill c k ∷ xs) n i = let r = standing-touched xs n i in (r.0, r.1, inr r.2)

-- who stands after some marks stands after them and one before them
standing-later : (z : CellMark) (xs : List CellMark) (n : NodeId) → Has (nodes_standing (cells_after xs)) n → Has (nodes_standing (cells_after (z ∷ xs))) n
standing-later Counted xs n i = i
standing-later (Gap c) xs n i = i
standing-later (Touch c k Stay) xs n i = inr i
standing-later (Touch c k Here) xs n i = inr i
standing-later (Touch c k Leave) xs n i = i
standing-later (Make c k true) xs n i = inr i
standing-later (Make c k false) xs n i = i
standing-later (Fill c k) xs n i = inr i

-- a node that is touched and stays stands after
pub stay-standing : (xs : List CellMark) (a : CellId) (n : NodeId) → Has xs (Touch a n Stay) → Has (nodes_standing (cells_after xs)) n
stay-standing [] a n h = absurd h
stay-standing (z ∷ xs) a n (inl e) = subst (λ y. Has (nodes_standing (cells_after (y ∷ xs))) n) (sym e) (inl refl)
stay-standing (z ∷ xs) a n (inr h) = standing-later z xs n (stay-standing xs a n h)

-- so does one who comes in
pub incoming-standing : (xs : List CellMark) (n : NodeId) → Has (incoming_nodes xs) n → Has (nodes_standing (cells_after xs)) n
incoming-standing [] n i = absurd i
incoming-standing (Counted ∷ xs) n i = incoming-standing xs n i
incoming-standing (Gap c ∷ xs) n i = incoming-standing xs n i
incoming-standing (Touch c k h ∷ xs) n i = standing-later (Touch c k h) xs n (incoming-standing xs n i)
incoming-standing (Make c k true ∷ xs) n (inl e) = inl e
incoming-standing (Make c k true ∷ xs) n (inr i) = inr (incoming-standing xs n i)
incoming-standing (Make c k false ∷ xs) n i = incoming-standing xs n i
incoming-standing (Fill c k ∷ xs) n (inl e) = inl e
incoming-standing (Fill c k ∷ xs) n (inr i) = inr (incoming-standing xs n i)

-- a row without cells, of which a step tells nothing, has none after it
pub none-gained : (m : NodeId → Bool) {c d : List Slot} (g : GainsItems SameCell c d) → c ≡ [] → list_any tells (step_row m g) ≡ false → d ≡ []
none-gained m no_more e f = refl
none-gained m (item_gained g) e f = cc
none-gained m (item_kept a g) e f = cc
