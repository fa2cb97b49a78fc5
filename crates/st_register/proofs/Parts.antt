-- The least part of which the change of a register tells.
use Rattle.std.specs.Prelude.{◌&&◌, ◌||◌, ◌+◌, ℕ, true, [], ◌∷◌, Option, Some, None, if◌then◌else◌}
use Rattle.st_ids.specs.Order.{same_node}
use Rattle.st_ids.specs.declared.names.FieldId.{FieldId}
use Rattle.st_ids.specs.declared.names.NodeId.{NodeId}
use Rattle.st_marks.specs.declared.intents.To.{To}
use Rattle.st_ids.specs.Root.{root}
use Rattle.st_marks.specs.Intent.{same_option}
use Rattle.st_marks.specs.How.{is_leave}
use Rattle.st_register.specs.declared.values.RegChange.{RegChange}
use Rattle.st_register.specs.Register.{RegPart}
use Rattle.st_register.specs.inside.Readings.{put_by, makes_by}

-- a number that the node doesn't have
abbrev pub other_number : Option NodeId → ℕ
other_number None = 0
other_number (Some n) = n.0.at + 1

-- a register of a new node, or of the root, and never of the node that comes in
abbrev pub field_told : RegChange → FieldId
field_told x = record {
  node = if x.in_new then record { 0 = record { rev = x.rev; at = other_number x.fill } } else root;
  key = record { 0 = 0 ∷ [] };
}

-- where the change puts a node
abbrev pub goes_told : RegChange → NodeId → Option To
goes_told x n =
    if same_option same_node (put_by x) (Some n) then Some (To.Register (field_told x))
    else if is_leave x.how && same_option same_node x.held (Some n) then Some To.Nowhere
    else None

-- that part
abbrev pub told : RegChange → RegPart
told x = record {
  field = field_told x;
  rev = x.rev;
  makes = λ n. (x.in_new && same_node (field_told x).node n) || makes_by x n;
  part = record { clear = x.clear; fill = put_by x; target_of = goes_told x; mentioned = λ _. true };
}
