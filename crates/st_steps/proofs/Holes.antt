-- A row with the cells that a void commit made.
use Rattle.std.proofs.Common.{◌≡◌, true, false, List, [], ◌∷◌, ◌++◌, map, Option, Some, None, refl, ap, ◌∙◌}
use Rattle.std.specs.List.{list_any}
use Rattle.st_ids.specs.declared.names.NodeId.{NodeId}
use Rattle.st_kind.specs.Named.{Nodes}
use Rattle.st_marks.specs.declared.intents.Owned.{Owned}
use Rattle.st_marks.specs.declared.marks.How.{How}
use Rattle.st_marks.specs.declared.places.Slot.{Slot}
use Rattle.st_marks.specs.Embedding.{tells}
use Rattle.st_marks.specs.Extends.{GainsItems, no_more, item_gained, item_kept}
use Rattle.st_marks.specs.Row.{CellMark, Counted, Gap, Touch, Make, Fill, RowPart, SameCell, embed_cell, embed_cells, embed_made, embed_row, step_cell, step_row}
use Rattle.st_rows.specs.Walks.{CellPiece, Both, First, Then, beside, meeting_piece}
use Rattle.st_rows.specs.Cells.{bridge_row, bridged_piece}
use Rattle.st_rows.proofs.PiecesBeside.{beside-gained, beside-kept}
use Rattle.st_steps.specs.Across.{hole_piece, with_holes}
use Rattle.st_puts.proofs.ListedIf.{or_parts}

-- ## It is the bridge of a row, void on both sides

abbrev none : Nodes
none n = false

piece-is : (t : NodeId → Option How) (z : CellPiece) → hole_piece z ≡ bridged_piece true true none t z
piece-is t (Both x y) = refl
piece-is t (First Counted) = refl
piece-is t (First (Gap c)) = refl
piece-is t (First (Touch c n h)) = refl
piece-is t (First (Make c n true)) = refl
piece-is t (First (Make c n false)) = refl
piece-is t (First (Fill c n)) = refl
piece-is t (Then Counted) = refl
piece-is t (Then (Gap c)) = refl
piece-is t (Then (Touch c n h)) = refl
piece-is t (Then (Make c n b)) = refl
piece-is t (Then (Fill c n)) = refl

pub holes-bridge : (t : NodeId → Option How) (xs ys : List CellMark) → with_holes xs ys ≡ bridge_row true true none t xs ys
holes-bridge t xs ys = go (beside xs ys)
  where
    go : (zs : List CellPiece) → map hole_piece zs ≡ map (bridged_piece true true none t) zs
    go [] = refl
    go (z ∷ zs) = λ i. piece-is t z i ∷ go zs i

-- ## Where the step tells nothing, nothing is told

meet : (x : CellMark) (rest : List CellMark → List CellPiece) → ((ys : List CellMark) → list_any tells ys ≡ false → list_any tells (map hole_piece (rest ys)) ≡ false)
    → (ys : List CellMark) → list_any tells ys ≡ false → list_any tells (map hole_piece (meeting_piece x rest ys)) ≡ false
meet x rest k [] h = refl
meet x rest k (Counted ∷ ys) h = k ys h
meet x rest k (Gap c ∷ ys) h = k ys h
meet x rest k (Touch c n w ∷ ys) h = cc
meet x rest k (Make c n b ∷ ys) h = cc
meet x rest k (Fill c n ∷ ys) h = cc

pub silent_step : (xs ys : List CellMark) → list_any tells ys ≡ false → list_any tells (with_holes xs ys) ≡ false
silent_step [] [] h = refl
silent_step [] (Counted ∷ ys) h = refl
silent_step [] (Gap c ∷ ys) h = refl
silent_step [] (Touch c n w ∷ ys) h = cc
silent_step [] (Make c n b ∷ ys) h = cc
silent_step [] (Fill c n ∷ ys) h = cc
silent_step (Make c n b ∷ xs) ys h = silent_step xs ys h
silent_step (Counted ∷ xs) ys h = meet Counted (beside xs) (λ zs k. silent_step xs zs k) ys h
silent_step (Gap c ∷ xs) ys h = meet (Gap c) (beside xs) (λ zs k. silent_step xs zs k) ys h
silent_step (Touch c n w ∷ xs) ys h = meet (Touch c n w) (beside xs) (λ zs k. silent_step xs zs k) ys h
silent_step (Fill c n ∷ xs) ys h = meet (Fill c n) (beside xs) (λ zs k. silent_step xs zs k) ys h

-- ## Where the change tells nothing, the step is as it was

made_none : (p : RowPart) (os : List Owned) (xs : List CellMark) → list_any tells (embed_made p os ++ xs) ≡ false → (embed_made p os ++ xs ≡ xs) × (list_any tells xs ≡ false)
made_none p [] xs h = (refl, h)
made_none p (o ∷ os) xs h = cc

silent_cells : (p : RowPart) (m : Nodes) {c d : List Slot} (g : GainsItems SameCell c d) → list_any tells (embed_cells p c) ≡ false → with_holes (embed_cells p c) (step_row m g) ≡ step_row m g
silent_cells p m no_more h = refl
silent_cells p m (item_gained {y = t} {xs = c} g) h = beside-gained hole_piece p c t.cell t.node t.full (step_row m g) ∙ ap (λ l. Make t.cell t.node t.full ∷ l) (silent_cells p m g h)
silent_cells p m (item_kept {x = s} {y = t} {xs = c} a g) h =
    let q = or_parts (tells (embed_cell p s.cell s.node s.full)) (list_any tells (embed_made p (p.new_cells (Some s.cell)) ++ embed_cells p c)) h in
    let r = made_none p (p.new_cells (Some s.cell)) (embed_cells p c) q.1 in
    beside-kept hole_piece p m s.cell s.node s.full t.full (embed_made p (p.new_cells (Some s.cell)) ++ embed_cells p c) (step_row m g)
    ∙ ap (λ l. step_cell m s.cell s.node s.full t.full ∷ l) (ap (λ l. with_holes l (step_row m g)) r.0 ∙ silent_cells p m g r.1)

pub silent_change : (p : RowPart) (m : Nodes) {c d : List Slot} (g : GainsItems SameCell c d) → list_any tells (embed_row p c) ≡ false → with_holes (embed_row p c) (step_row m g) ≡ step_row m g
silent_change p m {c} g h =
    let r = made_none p (p.new_cells None) (embed_cells p c) h in
    ap (λ l. with_holes l (step_row m g)) r.0 ∙ silent_cells p m g r.1
