use Rattle.std.proofs.Common.{◌≡◌, ◌++◌, [], unwrap_or}
use Rattle.std.specs.BTreeMap.{get}
use Rattle.st_ids.specs.declared.names.NodeId.{NodeId as Node}
use Rattle.st_ids.specs.Order.{node_cmp}
use Rattle.st_doc.specs.inside.LiveText.{seats_of}
use Rattle.st_doc.proofs.seats.seats_of.Given as goal

abbrev pub invariant-loop-field : goal.invariant-loop-field
invariant-loop-field l = (n : Node) → unwrap_or (get node_cmp l.seats n) [] ++ seats_of n l.field-iterator ≡ seats_of n l.held.entries
