-- What the test of a row says of the nodes that stand in it.
use Rattle.std.proofs.Common.{◌≡◌, ◌≢◌, Bool, true, false, List, [], ◌∷◌, ◌++◌, map, Some, None, cond, refl, sym, ap, ◌∙◌, subst, inl, inr}
use Rattle.st_ids.specs.Listing.{Has}
use Rattle.st_ids.specs.declared.names.CellId.{CellId}
use Rattle.st_ids.specs.declared.names.NodeId.{NodeId}
use Rattle.st_kind.specs.Named.{Nodes}
use Rattle.st_marks.specs.declared.intents.Owned.{Owned}
use Rattle.st_marks.specs.declared.intents.To.{To}
use Rattle.st_marks.specs.declared.marks.How.{How}
use Rattle.st_marks.specs.declared.marks.How.TheVariants.{Stay, Here, Leave}
use Rattle.st_marks.specs.declared.places.Slot.{Slot}
use Rattle.st_marks.specs.Extends.{GainsItems, no_more, item_gained, item_kept}
use Rattle.st_marks.specs.Row.{CellMark, Counted, Gap, Touch, Make, Fill, RowPart, SameCell, how, step_cell, step_row, embed_cell, embed_made, embed_cells, embed_row}
use Rattle.st_rows.specs.Walks.{CellPiece, Both, beside}
use Rattle.st_rows.proofs.PiecesBeside.{beside-kept, beside-gained}
use Rattle.st_reading.specs.Pieces.{read_piece}
use Rattle.st_read_laws.specs.Reading.{read}
use Rattle.st_reading.proofs.CountedPieces.{beside-read}
use Rattle.st_passing.specs.Passing.{all_pass, cell_passes, do_not_meet, piece_passes}
use Rattle.st_passing.specs.Staying.{MentionedStay}

not_so : {P : Type 0} → false ≡ true → P
not_so e = cc

-- ## Each answer of the test, told by a mark, so that the laws on tables say what the test says

abbrev all_counted : List CellMark → Bool
all_counted [] = true
all_counted (Counted ∷ xs) = all_counted xs
all_counted (Gap c ∷ xs) = false
all_counted (Touch c n h ∷ xs) = false
all_counted (Make c n b ∷ xs) = false
all_counted (Fill c n ∷ xs) = false

module _ (z : CellId) where
  abbrev told : CellPiece → CellMark
  told q = cond (piece_passes false (read_piece false q)) Counted (Gap z)

  pass_told : (ps : List CellPiece) → all_pass false (map (read_piece false) ps) ≡ all_counted (map told ps)
  pass_told [] = refl
  pass_told (q ∷ ps) = go (piece_passes false (read_piece false q)) (pass_told ps)
    where
      go : (b : Bool) → all_pass false (map (read_piece false) ps) ≡ all_counted (map told ps) → cond b (all_pass false (map (read_piece false) ps)) false ≡ all_counted (cond b Counted (Gap z) ∷ map told ps)
      go true e = e
      go false e = refl

  strip : (b : Bool) (xs : List CellMark) → all_counted (cond b Counted (Gap z) ∷ xs) ≡ true → (b ≡ true) × (all_counted xs ≡ true)
  strip true xs h = (refl, h)
  strip false xs h = not_so h

  module _ (p : RowPart) (named : Nodes) where
    behind_made : (os : List Owned) (xs ys : List CellMark) → all_counted (map told (beside (embed_made p os ++ xs) ys)) ≡ true → all_counted (map told (beside xs ys)) ≡ true
    behind_made [] xs ys h = h
    behind_made (o ∷ os) xs ys h = behind_made os xs ys (strip _ (map told (beside (embed_made p os ++ xs) ys)) h).1

    met_leave : (c : CellId) (n : NodeId) (h : How) → cell_passes false (Touch c n h) (Touch c n Leave) ≡ true → ⊥
    met_leave c n Stay e = not_so e
    met_leave c n Here e = not_so e
    met_leave c n Leave e = not_so e

    pair_stays : (c : CellId) (n : NodeId) (a b : Bool) → piece_passes false (read_piece false (Both (embed_cell p c n a) (step_cell named c n a b))) ≡ true → a ≡ true → p.mentioned n ≡ true → b ≡ true
    pair_stays c n true true h e m = refl
    pair_stays c n true false h e m =
        absurd (met_leave c n (how (p.target_of n) (To.Cell c)) (subst (λ w. piece_passes false (read_piece false (Both (cond w (Touch c n (how (p.target_of n) (To.Cell c))) Counted) (Touch c n Leave))) ≡ true) m h))
    pair_stays c n false b h e m = not_so e

    pair_kept : (c : CellId) (n : NodeId) (a b : Bool) → piece_passes false (read_piece false (Both (embed_cell p c n a) (step_cell named c n a b))) ≡ true → a ≡ true → p.mentioned n ≡ true → named n ≡ true → how (p.target_of n) (To.Cell c) ≢ Leave
    pair_kept c n true true h e m k q =
        let i : piece_passes false (read_piece false (Both (Touch c n (how (p.target_of n) (To.Cell c))) (cond (named n) (Touch c n Stay) Counted))) ≡ true
        = subst (λ w. piece_passes false (read_piece false (Both (cond w (Touch c n (how (p.target_of n) (To.Cell c))) Counted) (cond (named n) (Touch c n Stay) Counted))) ≡ true) m h in
        let j : piece_passes false (read_piece false (Both (Touch c n (how (p.target_of n) (To.Cell c))) (Touch c n Stay))) ≡ true
        = subst (λ w. piece_passes false (read_piece false (Both (Touch c n (how (p.target_of n) (To.Cell c))) (cond w (Touch c n Stay) Counted))) ≡ true) k i in
        let o : cell_passes false (Touch c n Leave) (Touch c n Stay) ≡ true = subst (λ w. piece_passes false (read_piece false (Both (Touch c n w) (Touch c n Stay))) ≡ true) q j in
        not_so o
    pair_kept c n true false h e m k q = let b = pair_stays c n true false h e m in not_so b
    pair_kept c n false b h e m k q = not_so e

    cells_stay : {c d : List Slot} (g : GainsItems SameCell c d) → all_counted (map told (beside (embed_cells p c) (step_row named g))) ≡ true → MentionedStay p named g
    cells_stay no_more h = tt
    cells_stay (item_gained {y = s} {xs = c} {ys = d} g) h =
        cells_stay g (strip _ (map told (beside (embed_cells p c) (step_row named g))) (ap all_counted (sym (beside-gained told p c s.cell s.node s.full (step_row named g))) ∙ h)).1
    cells_stay (item_kept {x = s} {y = u} {xs = c} {ys = d} a g) h =
        let made = embed_made p (p.new_cells (Some s.cell)) in
        let q = strip _ (map told (beside (made ++ embed_cells p c) (step_row named g))) (ap all_counted (sym (beside-kept told p named s.cell s.node s.full u.full (made ++ embed_cells p c) (step_row named g))) ∙ h) in
        ((pair_stays s.cell s.node s.full u.full q.0, pair_kept s.cell s.node s.full u.full q.0), cells_stay g (behind_made (p.new_cells (Some s.cell)) (embed_cells p c) (step_row named g) q.1))

    pub row_stays : {c d : List Slot} (g : GainsItems SameCell c d) → do_not_meet false (map (read false) (embed_row p c)) (map (read false) (step_row named g)) ≡ true → MentionedStay p named g
    row_stays {c} g h =
        cells_stay g (behind_made (p.new_cells None) (embed_cells p c) (step_row named g)
        (sym (pass_told (beside (embed_row p c) (step_row named g))) ∙ ap (all_pass false) (sym (beside-read false (embed_row p c) (step_row named g))) ∙ h))

-- ## A node that stands in the row

pub stands_on : (p : RowPart) (named : Nodes) {c d : List Slot} (g : GainsItems SameCell c d) → MentionedStay p named g → (a : CellId) (n : NodeId) → p.mentioned n ≡ true
    → Has c (record { cell = a; node = n; full = true }) → Has d (record { cell = a; node = n; full = true })
stands_on p named no_more s a n m h = absurd h
stands_on p named (item_gained g) s a n m h = inr (stands_on p named g s a n m h)
stands_on p named (item_kept {x} {y} same g) s a n m (inr h) = inr (stands_on p named g s.1 a n m h)
stands_on p named (item_kept {x} {y} same g) s a n m (inl e) =
    let cell : y.cell ≡ a = sym same.0 ∙ ap (λ (t : Slot). t.cell) e in
    let node : y.node ≡ n = sym same.1 ∙ ap (λ (t : Slot). t.node) e in
    let full : y.full ≡ true = s.0.0 (ap (λ (t : Slot). t.full) e) (ap p.mentioned (ap (λ (t : Slot). t.node) e) ∙ m) in
    inl (λ i. record { cell = cell i; node = node i; full = full i })
