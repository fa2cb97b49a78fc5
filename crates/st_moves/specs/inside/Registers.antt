-- A register beside that of a step, and nodes that are nowhere.
use Rattle.std.specs.Prelude.{Bool, ◌&&◌, not, List, Option, Some, None, if◌then◌else◌}
use Rattle.st_ids.specs.Listing.{item_of}
use Rattle.st_ids.specs.Order.{field_cmp, same_node}
use Rattle.st_ids.specs.Root.{root}
use Rattle.st_ids.specs.declared.names.FieldId.{FieldId}
use Rattle.st_ids.specs.declared.names.NodeId.{NodeId}
use Rattle.st_marks.specs.declared.intents.To.{To}
use Rattle.st_marks.specs.declared.marks.Loose.{Loose}
use Rattle.st_marks.specs.declared.marks.RegMark.{RegMark}
use Rattle.st_marks.specs.declared.marks.RegStep.{RegStep}
use Rattle.st_marks.specs.declared.places.Spot.{Spot}
use Rattle.st_marks.specs.Embedding.{is_nowhere}
use Rattle.st_marks.specs.Row.{how}
use Rattle.st_moves.specs.Carried.{carried_register}

-- a register, by what a change and a step list of it
abbrev pub register_beside : (NodeId → Option To) → (NodeId → Bool) → List RegMark → List RegStep → FieldId → Option RegMark
register_beside target_of m cs ss f = carried_register f target_of m
    (item_of field_cmp (λ (r : RegMark). r.field) cs f) (item_of field_cmp (λ (r : RegStep). r.field) ss f)

-- a node that is nowhere, unless it is the root
abbrev pub loose_in : (NodeId → Option To) → (NodeId → Spot) → NodeId → Option Loose
loose_in target_of place n = if is_nowhere (place n) && not (same_node n root) then Some (record { node = n; how = how (target_of n) To.Nowhere }) else None
