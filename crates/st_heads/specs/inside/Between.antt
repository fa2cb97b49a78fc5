-- What differs between two documents.
use Rattle.std.specs.Prelude.{Bool, false, not, ◌&&◌, Option, Some, None, if◌then◌else◌}
use Rattle.std.specs.Option.{option_map_or}
use Rattle.st_ids.specs.Order.{same_node}
use Rattle.st_ids.specs.declared.names.FieldId.{FieldId}
use Rattle.st_ids.specs.declared.names.NodeId.{NodeId}
use Rattle.st_marks.specs.declared.intents.Put.{Put}
use Rattle.st_marks.specs.declared.intents.To.{To}
use Rattle.st_marks.specs.Back.{is_in, place_back, to_of}
use Rattle.st_marks.specs.Document.{Document, node_of}
use Rattle.st_marks.specs.Intent.{same_option}
use Rattle.st_marks.specs.Row.{same_to}

-- whether a node stands in a field of a node of the earlier document
abbrev pub stands_in_old : Document → Document → NodeId → Bool
stands_in_old D E n = option_map_or (is_in D) (node_of (E.place n)) false

-- where the put of a node leads that goes back
abbrev pub target_between : Document → Document → NodeId → To
target_between D E n = to_of (place_back D E n)

-- the put of a node whose place differs
abbrev pub put_between : Document → Document → NodeId → Option Put
put_between D E n = if same_to (target_between D E n) (to_of (E.place n)) then None else Some (record { node = n; to = target_between D E n })

-- whether the occupant of a register of an earlier node differs
abbrev pub differs : Document → Document → FieldId → Bool
differs D E f = is_in D f.node && not (same_option same_node (D.held f) (E.held f))

-- the register, if it does
abbrev pub changed_field : Document → Document → FieldId → Option FieldId
changed_field D E f = if differs D E f then Some f else None
