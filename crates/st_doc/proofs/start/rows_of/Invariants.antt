use Rattle.std.proofs.Common.{◌≡◌, [], take, unwrap_or}
use Rattle.std.specs.BTreeMap.{get}
use Rattle.std.specs.List.{filter_map}
use Rattle.st_ids.specs.declared.names.NodeId.{NodeId as Node}
use Rattle.st_ids.specs.Order.{node_cmp}
use Rattle.st_tree.specs.declared.flat.FlatNode.{FlatNode as Flat}
use Rattle.st_opening.specs.Start.{cell_at}
use Rattle.st_doc.proofs.start.rows_of.Given as goal

abbrev pub invariant-loop-x : goal.invariant-loop-x
invariant-loop-x l = (n : Node) → unwrap_or (get node_cmp l.rows n) [] ≡ filter_map (λ (x : Flat). cell_at n x.node x.at) (take l.x-index l.flat)
