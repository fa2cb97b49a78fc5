use Rattle.std.proofs.Common.{◌≡◌, option_map, take}
use Rattle.std.specs.BTreeMap.{get}
use Rattle.st_ids.specs.declared.names.NodeId.{NodeId as Node}
use Rattle.st_ids.specs.Order.{node_cmp}
use Rattle.st_opening.specs.Start.{first_said, place_at, type_at}
use Rattle.st_forest.specs.Stands.{named}
use Rattle.st_forest.specs.declared.forest.Seated.{Seated as Entry}
use Rattle.st_forest_start.proofs.opened.start_nodes.Given as goal

abbrev pub invariant-loop-x : goal.invariant-loop-x
invariant-loop-x l = record {
  node : (n : Node) → option_map (λ (s : Entry). s.node) (get node_cmp l.nodes n) ≡ option_map (named n) (first_said (type_at n) (take l.x-index l.flat));
  place : (n : Node) → option_map (λ (s : Entry). s.place) (get node_cmp l.nodes n) ≡ first_said (place_at n) (take l.x-index l.flat);
}
