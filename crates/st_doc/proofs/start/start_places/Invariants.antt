use Rattle.std.proofs.Common.{◌≡◌, take}
use Rattle.std.specs.BTreeMap.{get}
use Rattle.st_ids.specs.declared.names.NodeId.{NodeId as Node}
use Rattle.st_ids.specs.Order.{node_cmp}
use Rattle.st_opening.specs.Start.{first_said, place_at}
use Rattle.st_doc.proofs.start.start_places.Given as goal

abbrev pub invariant-loop-x : goal.invariant-loop-x
invariant-loop-x l = (n : Node) → get node_cmp l.place n ≡ first_said (place_at n) (take l.x-index l.flat)
