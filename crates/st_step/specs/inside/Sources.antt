-- The nodes that are changed between a document and one that extends it.
use Rattle.std.specs.Prelude.{◌↔◌, ◌||◌, not, List, Option, Some, None, IsSome, if◌then◌else◌}
use Rattle.std.specs.List.{list_any}
use Rattle.st_ids.specs.Listing.{Has}
use Rattle.st_ids.specs.Order.{same_node}
use Rattle.st_ids.specs.declared.names.FieldId.{FieldId}
use Rattle.st_ids.specs.declared.names.NodeId.{NodeId}
use Rattle.st_marks.specs.Document.{Document}
use Rattle.st_marks.specs.Intent.{same_option}
use Rattle.st_marks.specs.Step.{IsChanged}
use Rattle.st_step.specs.inside.Marks.{differs, same_spot}

-- the node, if it stands elsewhere or its row differs
abbrev pub changed_node : Document → Document → NodeId → Option NodeId
changed_node D E n = if not (same_spot (D.place n) (E.place n)) || list_any (differs D E) (E.rows n) then Some n else None

-- the node of a register, if the occupant differs
abbrev pub changed_owner : Document → Document → FieldId → Option NodeId
changed_owner D E f = if not (same_option same_node (D.held f) (E.held f)) then Some f.node else None

-- those of the names that D has are the nodes that are changed
abbrev pub AreChanged : Document → Document → List NodeId → Type 0
AreChanged D E names = (n : NodeId) → (Has names n × IsSome (D.nodes n)) ↔ IsChanged D E n
