use Rattle.std.proofs.Common.{◌≡◌, map, take}
use Rattle.std.specs.BTreeSet.{contains}
use Rattle.st_ids.specs.Order.{node_cmp}
use Rattle.st_ids.specs.declared.names.NodeId.{NodeId}
use Rattle.st_marks.specs.Embedding.{is_among}
use Rattle.st_turn_places.specs.declared.places.Placed.{Placed}
use Rattle.st_part_rings.proofs.links.nodes_placed.Given as goal

abbrev pub invariant-loop-placed : goal.invariant-loop-placed
invariant-loop-placed l = (n : NodeId) → contains node_cmp l.set n ≡ is_among (map (λ (p : Placed). p.node) (take l.placed-index l.places)) n
