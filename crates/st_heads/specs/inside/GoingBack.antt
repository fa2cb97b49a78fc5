-- Where nodes go back, by a commit and by the document before it.
use Rattle.std.specs.Prelude.{Bool, false, not, ◌&&◌, List, Option, Some, None, if◌then◌else◌}
use Rattle.std.specs.List.{list_any}
use Rattle.st_ids.specs.Order.{same_cell, same_field}
use Rattle.st_ids.specs.declared.names.CellId.{CellId}
use Rattle.st_ids.specs.declared.names.FieldId.{FieldId}
use Rattle.st_ids.specs.declared.names.NodeId.{NodeId}
use Rattle.st_marks.specs.declared.intents.Group.{Group}
use Rattle.st_marks.specs.declared.intents.Owned.{Owned}
use Rattle.st_marks.specs.declared.intents.To.{To}
use Rattle.st_marks.specs.declared.places.Spot.{Spot}
use Rattle.st_marks.specs.Back.{is_in, to_of}
use Rattle.st_marks.specs.Document.{Document}
use Rattle.st_marks.specs.Row.{same_to}

-- back into its register, for who stands in one of the cleared ones
abbrev pub if_evicted : List FieldId → Spot → Option To
if_evicted clear Spot.Nowhere = None
if_evicted clear (Spot.Row n c) = None
if_evicted clear (Spot.Register f) = if list_any (λ g. same_field g f) clear then Some (To.Register f) else None

-- whether a cell is made in the row of an old node
abbrev pub in_old_row : Document → List Group → CellId → Bool
in_old_row D gs c = list_any (λ (g : Group). is_in D g.node && list_any (λ (o : Owned). same_cell o.cell c) g.cells) gs

-- whether a put of a new node leads into a row or register of an old node, where `made` tells the cells that are made in
-- rows of old nodes
abbrev pub leads_into_old : Document → (CellId → Bool) → To → Bool
leads_into_old D made To.Nowhere = false
leads_into_old D made (To.Cell c) = made c
leads_into_old D made (To.Register f) = is_in D f.node

-- where a node that is put goes back, if it does: an old one that is put elsewhere to where it stood, a new one out of
-- the fields of old nodes
abbrev pub back_of_put : Document → (CellId → Bool) → NodeId → To → Option To
back_of_put D made n to = if is_in D n then (if same_to to (to_of (D.place n)) then None else Some (to_of (D.place n)))
    else (if leads_into_old D made to then Some To.Nowhere else None)

-- where a node goes back, by where it is put, or else by another answer
abbrev pub back_by : Document → (CellId → Bool) → NodeId → Option To → Option To → Option To
back_by D made n None other = other
back_by D made n (Some to) other = back_of_put D made n to

-- the register of an old node that a put leads into anew
abbrev pub entered_field : Document → NodeId → To → Option FieldId
entered_field D n To.Nowhere = None
entered_field D n (To.Cell c) = None
entered_field D n (To.Register f) = if is_in D f.node && not (same_to (To.Register f) (to_of (D.place n))) then Some f else None
