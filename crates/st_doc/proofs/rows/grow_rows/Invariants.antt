use Rattle.std.proofs.Common.{◌≡◌, [], unwrap_or}
use Rattle.std.specs.BTreeMap.{get}
use Rattle.st_ids.specs.declared.names.NodeId.{NodeId as Node}
use Rattle.st_ids.specs.Order.{node_cmp}
use Rattle.st_doc.proofs.Growing.{grown, up_to}
use Rattle.st_doc.proofs.rows.grow_rows.Given as goal

-- the rows have grown by the groups gone through
abbrev pub invariant-loop-group : goal.invariant-loop-group
invariant-loop-group l = (n : Node) → unwrap_or (get node_cmp l.rows n) [] ≡ grown (up_to l.intent l.group-index) n (unwrap_or (get node_cmp l.initial.rows n) [])
