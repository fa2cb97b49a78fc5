-- How a change and a step are laid side by side.
use Rattle.std.proofs.Common.{◌≡◌, Bool, true, false, List, [], ◌∷◌, ◌++◌, Some, map, cond, refl, sym, ap, ◌∙◌}
use Rattle.st_ids.specs.declared.names.CellId.{CellId}
use Rattle.st_ids.specs.declared.names.NodeId.{NodeId}
use Rattle.st_marks.specs.declared.intents.To.{To}
use Rattle.st_marks.specs.declared.marks.How.TheVariants.{Stay}
use Rattle.st_marks.specs.declared.places.Slot.{Slot}
use Rattle.st_marks.specs.Row.{CellMark, Counted, Gap, Touch, Make, Fill, RowPart, how, step_cell, embed_cell, embed_made, embed_cells}
use Rattle.st_marks.specs.How.{is_here}
use Rattle.st_rows.specs.Walks.{CellPiece, Both, Then, beside, meeting_piece}

-- what is found is never a made cell
pub beside-found : (f : CellPiece → CellMark) (p : RowPart) (c : CellId) (n : NodeId) (b : Bool) (xs ys : List CellMark) → map f (beside (embed_cell p c n b ∷ xs) ys) ≡ map f (meeting_piece (embed_cell p c n b) (beside xs) ys)
beside-found f p c n true xs ys =
    elim (p.mentioned n) as (λ b. map f (beside (cond b (Touch c n (how (p.target_of n) (To.Cell c))) Counted ∷ xs) ys) ≡ map f (meeting_piece (cond b (Touch c n (how (p.target_of n) (To.Cell c))) Counted) (beside xs) ys)) [ true ↦ refl | false ↦ refl ]
beside-found f p c n false xs ys =
    elim (is_here (how (p.target_of n) (To.Cell c))) as (λ b. map f (beside (cond b (Fill c n) (Gap c) ∷ xs) ys) ≡ map f (meeting_piece (cond b (Fill c n) (Gap c)) (beside xs) ys)) [ true ↦ refl | false ↦ refl ]

pub meeting-found : (f : CellPiece → CellMark) (x : CellMark) (rest : List CellMark → List CellPiece) (m : NodeId → Bool) (c : CellId) (n : NodeId) (a b : Bool) (ys : List CellMark) → map f (meeting_piece x rest (step_cell m c n a b ∷ ys)) ≡ f (Both x (step_cell m c n a b)) ∷ map f (rest ys)
meeting-found f x rest m c n true true ys =
    elim (m n) as (λ b. map f (meeting_piece x rest (cond b (Touch c n Stay) Counted ∷ ys)) ≡ f (Both x (cond b (Touch c n Stay) Counted)) ∷ map f (rest ys)) [ true ↦ refl | false ↦ refl ]
meeting-found f x rest m c n true false ys = refl
meeting-found f x rest m c n false true ys = refl
meeting-found f x rest m c n false false ys = refl

-- a cell that both find
pub beside-kept : (f : CellPiece → CellMark) (p : RowPart) (m : NodeId → Bool) (c : CellId) (n : NodeId) (a b : Bool) (xs ys : List CellMark) → map f (beside (embed_cell p c n a ∷ xs) (step_cell m c n a b ∷ ys)) ≡ f (Both (embed_cell p c n a) (step_cell m c n a b)) ∷ map f (beside xs ys)
beside-kept f p m c n a b xs ys = beside-found f p c n a xs (step_cell m c n a b ∷ ys) ∙ meeting-found f (embed_cell p c n a) (beside xs) m c n a b ys

-- a cell that the step makes stands left of what the change finds
pub beside-gained : (f : CellPiece → CellMark) (p : RowPart) (c : List Slot) (a : CellId) (n : NodeId) (b : Bool) (ys : List CellMark) → map f (beside (embed_cells p c) (Make a n b ∷ ys)) ≡ f (Then (Make a n b)) ∷ map f (beside (embed_cells p c) ys)
beside-gained f p [] a n b ys = refl
beside-gained f p (s ∷ c) a n b ys =
    beside-found f p s.cell s.node s.full (embed_made p (p.new_cells (Some s.cell)) ++ embed_cells p c) (Make a n b ∷ ys)
    ∙ ap (λ l. f (Then (Make a n b)) ∷ l) (sym (beside-found f p s.cell s.node s.full (embed_made p (p.new_cells (Some s.cell)) ++ embed_cells p c) ys))
