-- The row of a change after a step that moves nothing of it.
use Rattle.std.proofs.Common.{◌≡◌, ◌≢◌, Bool, true, false, List, [], ◌∷◌, ◌++◌, map, Some, None, cond, refl, sym, ap, ◌∙◌}
use Rattle.std.proofs.lemmas.List.{map-append}
use Rattle.st_ids.specs.declared.names.CellId.{CellId}
use Rattle.st_ids.specs.declared.names.NodeId.{NodeId}
use Rattle.st_kind.specs.Named.{Nodes}
use Rattle.st_marks.specs.declared.intents.Owned.{Owned}
use Rattle.st_marks.specs.declared.intents.To.{To}
use Rattle.st_marks.specs.declared.places.Slot.{Slot}
use Rattle.st_marks.specs.Extends.{GainsItems, no_more, item_gained, item_kept}
use Rattle.st_marks.specs.How.{is_here}
use Rattle.st_marks.specs.Row.{CellMark, Counted, Gap, Touch, Make, Fill, RowPart, SameCell, how, step_row, embed_cell, embed_made, embed_cells, embed_row}
use Rattle.st_rows.specs.Walks.{CellPiece, Both, First, Then, beside}
use Rattle.st_rows.proofs.PiecesBeside.{beside-kept, beside-gained}
use Rattle.st_reading.specs.Over.{mentioning}
use Rattle.st_reading.specs.Pieces.{AreAlike, read_piece}
use Rattle.st_read_laws.specs.Reading.{read}
use Rattle.st_reading.proofs.CountedPieces.{alike_beside}
use Rattle.st_read_laws.proofs.Readings.{read-twice}
use Rattle.st_passing.specs.Passing.{first_kept, raised}
use Rattle.st_passing.specs.Staying.{IsLeft}
use Rattle.st_passing.proofs.RowsPassed.{twice}

module _ (p : RowPart) (m named : Nodes) where
  abbrev q : RowPart
  q = mentioning m p

  abbrev kept : CellPiece → CellMark
  kept r = read false (first_kept r)

  full_left : (c : CellId) (n : NodeId) → m n ≡ false → Counted ≡ read false (embed_cell q c n true)
  full_left c n e = ap (λ b. read false (cond b (Touch c n (how (p.target_of n) (To.Cell c))) Counted)) (sym e)

  empty_left : (r : RowPart) (c : CellId) (n : NodeId) → is_here (how (r.target_of n) (To.Cell c)) ≡ false → Counted ≡ read false (embed_cell r c n false)
  empty_left r c n e = ap (λ b. read false (cond b (Fill c n) (Gap c))) (sym e)

  not_here : (c : CellId) (n : NodeId) → p.target_of n ≡ None → is_here (how (p.target_of n) (To.Cell c)) ≡ false
  not_here c n e = ap (λ o. is_here (how o (To.Cell c))) e

  cell_left : (c : CellId) (n : NodeId) (a b : Bool) → m n ≡ p.mentioned n → (a ≢ b → (p.mentioned n ≡ false) × (p.target_of n ≡ None)) → read false (embed_cell p c n a) ≡ read false (embed_cell q c n b)
  cell_left c n true true e h = ap (λ b. read false (cond b (Touch c n (how (p.target_of n) (To.Cell c))) Counted)) (sym e)
  cell_left c n true false e h =
      let f = h (λ z. cc) in
      ap (λ b. read false (cond b (Touch c n (how (p.target_of n) (To.Cell c))) Counted)) f.0 ∙ empty_left q c n (not_here c n f.1)
  cell_left c n false true e h =
      let f = h (λ z. cc) in
      sym (empty_left p c n (not_here c n f.1)) ∙ full_left c n (e ∙ f.0)
  cell_left c n false false e h = refl

  gained_left : (c : CellId) (n : NodeId) (b : Bool) → (b ≡ true → m n ≡ false) → (b ≡ false → is_here (how (p.target_of n) (To.Cell c)) ≡ false) → Counted ≡ read false (embed_cell q c n b)
  gained_left c n true f g = full_left c n (f refl)
  gained_left c n false f g = empty_left q c n (g refl)

  made_left : (os : List Owned) (xs ys : List CellMark) → map kept (beside (embed_made p os ++ xs) ys) ≡ map (read false) (embed_made q os) ++ map kept (beside xs ys)
  made_left [] xs ys = refl
  made_left (o ∷ os) xs ys = ap (λ z. Make o.cell o.node (is_here (how (p.target_of o.node) (To.Cell o.cell))) ∷ z) (made_left os xs ys)

  cells_left : {c d : List Slot} (g : GainsItems SameCell c d) → IsLeft p m g → map kept (beside (embed_cells p c) (step_row named g)) ≡ map (read false) (embed_cells q d)
  cells_left no_more h = refl
  cells_left (item_gained {y = s} {xs = c} {ys = d} g) h =
      rw h.2 (beside-gained kept p c s.cell s.node s.full (step_row named g) ∙ (λ i. gained_left s.cell s.node s.full h.0 h.1 i ∷ cells_left g h.3 i))
  cells_left (item_kept {x = s} {y = u} {xs = c} {ys = d} a g) h =
      beside-kept kept p named s.cell s.node s.full u.full (embed_made p (p.new_cells (Some s.cell)) ++ embed_cells p c) (step_row named g)
      ∙ (λ i. cell_left s.cell s.node s.full u.full h.0 h.1 i ∷ (made_left (p.new_cells (Some s.cell)) (embed_cells p c) (step_row named g) ∙ ap (λ z. map (read false) (embed_made q (p.new_cells (Some s.cell))) ++ z) (cells_left g h.2)
      ∙ sym (map-append (read false) (embed_made q (p.new_cells (Some s.cell))) (embed_cells q d))) i)
      ∙ (λ i. read false (embed_cell q (a.0 i) (a.1 i) u.full) ∷ map (read false) (embed_made q (p.new_cells (Some (a.0 i))) ++ embed_cells q d))

  row_left : {c d : List Slot} (g : GainsItems SameCell c d) → IsLeft p m g → map kept (beside (embed_row p c) (step_row named g)) ≡ map (read false) (embed_row q d)
  row_left {c} {d} g h =
      made_left (p.new_cells None) (embed_cells p c) (step_row named g) ∙ ap (λ z. map (read false) (embed_made q (p.new_cells None)) ++ z) (cells_left g h)
      ∙ sym (map-append (read false) (embed_made q (p.new_cells None)) (embed_cells q d))

  kept_blind : (r : CellPiece) → kept (read_piece false r) ≡ kept r
  kept_blind (Both x y) = read-twice false x
  kept_blind (First x) = read-twice false x
  kept_blind (Then y) = refl

  pub shown_row_left : {c d : List Slot} (g : GainsItems SameCell c d) (xs ys : List CellMark) → IsLeft p m g → AreAlike false xs (embed_row p c) → AreAlike false ys (step_row named g)
      → map (read false) (raised xs ys) ≡ map (read false) (embed_row q d)
  shown_row_left {c} g xs ys h a b =
      twice (read false) first_kept (beside xs ys) ∙ alike_beside false kept xs ys (embed_row p c) (step_row named g) kept_blind a b ∙ row_left g h
