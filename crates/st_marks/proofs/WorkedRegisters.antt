-- Worked cases of registers: an occupant that is evicted, set or out, and a step.
use Rattle.std.proofs.Common.{◌≡◌, Bool, true, false, List, [], ◌∷◌, Option, Some, None, refl}
use Rattle.st_ids.specs.Order.{same_node, same_cell, same_field}
use Rattle.st_ids.specs.declared.names.NodeId.{NodeId}
use Rattle.st_marks.specs.declared.intents.Intent.{Intent}
use Rattle.st_marks.specs.declared.intents.To.{To}
use Rattle.st_marks.specs.declared.marks.How.TheVariants.{Stay, Here, Leave}
use Rattle.st_marks.specs.declared.marks.Mark.{Mark}
use Rattle.st_marks.specs.declared.marks.RegMark.{RegMark}
use Rattle.st_marks.specs.declared.places.Slot.{Slot}
use Rattle.st_marks.specs.declared.places.Spot.{Spot}
use Rattle.st_marks.specs.Document.{content}
use Rattle.st_ids.specs.Root.{root}
use Rattle.st_marks.specs.CarryOut.{full, void}
use Rattle.st_marks.specs.Extends.{item_gained, item_kept, no_more}
use Rattle.st_marks.specs.Row.{step_row}
use Rattle.st_marks.specs.Register.{embed_register, step_register}
use Rattle.st_marks.specs.Embedding.{is_among, register_part, row_marks, named_by_intent}
use Rattle.st_marks.proofs.Worked.{node, cell, old, old_cell, rev, field, full_cell, empty, one_held, two, intent, new, group, puts, sets}

-- ## Evicted

occupant_after : (full one_held sets).held (field (old 1)) ≡ Some (node 1 1 0)
unfolding same_node same_field
occupant_after = refl

evicted_is_nowhere : (full one_held sets).place (old 2) ≡ Spot.Nowhere
unfolding same_node same_field
evicted_is_nowhere = refl

-- the change names the register's node and the new one, and not the occupant, which is shown in the register alone
evicted_is_not_named : named_by_intent one_held sets ≡ node 1 1 0 ∷ old 1 ∷ []
evicted_is_not_named = refl

evicting_mark : embed_register (field (old 1)) (register_part (is_among (root ∷ old 1 ∷ [])) sets (field (old 1))) (one_held.held (field (old 1)))
    ≡ Some (record { field = field (old 1); held = Some (old 2); how = Stay; clear = true; fill = Some (node 1 1 0) })
unfolding same_node same_field
evicting_mark = refl

-- void, it leaves the occupant
void_set_stays : (void one_held sets).held (field (old 1)) ≡ Some (old 2)
unfolding same_node same_field
void_set_stays = refl

-- ## Set, and out

abbrev mentioned : NodeId → Bool
mentioned = is_among (root ∷ old 1 ∷ old 2 ∷ [])

abbrev mark_of : Intent → Option RegMark
mark_of N = embed_register (field (old 1)) (register_part mentioned N (field (old 1))) (one_held.held (field (old 1)))

-- put where it is
set_mark : mark_of (intent (rev 1 1) [] [] (field (old 1) ∷ []) (puts (old 2) (To.Register (field (old 1))) ∷ [])) ≡ Some (record { field = field (old 1); held = Some (old 2); how = Here; clear = true; fill = None })
unfolding same_node same_field
set_mark = refl

-- moved into the root's row
abbrev moves_out : Intent
moves_out = intent (rev 1 1) [] (group root None (cell 1 1 0) (old 2) ∷ []) [] (puts (old 2) (To.Cell (cell 1 1 0)) ∷ [])

out_mark : mark_of moves_out ≡ Some (record { field = field (old 1); held = Some (old 2); how = Leave; clear = false; fill = None })
unfolding same_node same_field
out_mark = refl

out_is_empty : (full one_held moves_out).held (field (old 1)) ≡ None
unfolding same_node same_field same_cell
out_is_empty = refl

-- ## Steps

step_of_set : step_register (field (old 1)) (is_among (root ∷ old 1 ∷ old 2 ∷ [])) (one_held.held (field (old 1))) ((full one_held sets).held (field (old 1)))
    ≡ Some (record { field = field (old 1); before = Some (old 2); after = Some (node 1 1 0) })
unfolding same_node same_field
step_of_set = refl

-- a step shows an empty new cell with its owner, which isn't mentioned by that: 0.0.1 stays counted
abbrev with_hole : Intent
with_hole = intent (rev 1 1) (new (node 1 1 0) ∷ []) (group root (Some (old_cell 1)) (cell 1 1 0) (node 1 1 0) ∷ []) [] []

abbrev row_before : List Slot
row_before = full_cell (old_cell 0) (old 1) ∷ full_cell (old_cell 1) (old 2) ∷ []

abbrev row_after : List Slot
row_after = full_cell (old_cell 0) (old 1) ∷ full_cell (old_cell 1) (old 2) ∷ empty (cell 1 1 0) (node 1 1 0) ∷ []

grown_row : (content two root ≡ row_before) × (content (full two with_hole) root ≡ row_after)
unfolding same_node same_cell
grown_row = (refl, refl)

hole_of_step : row_marks root (step_row (is_among (root ∷ [])) {c = row_before} {d = row_after} (item_kept (refl, refl) (item_kept (refl, refl) (item_gained no_more))))
    ≡ Some (record { node = root; marks = Mark.Skip 2 ∷ Mark.Make (cell 1 1 0) (node 1 1 0) false ∷ [] })
unfolding same_node same_cell
hole_of_step = refl
