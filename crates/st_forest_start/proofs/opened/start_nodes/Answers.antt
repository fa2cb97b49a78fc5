use Rattle.std.proofs.Common.{option_map, sym}
use Rattle.std.specs.BTreeMap.{get}
use Rattle.st_ids.specs.Order.{node_cmp}
use Rattle.st_opening.specs.Start.{place_at, type_at}
use Rattle.st_forest.specs.Stands.{named}
use Rattle.st_forest.specs.declared.forest.Seated.{Seated as Entry}
use Rattle.st_forest_start.proofs.Preordered.{said_more, told_more}
use Rattle.st_forest_start.proofs.opened.start_nodes.Goals as goal

pub loop-x-preserved : goal.loop-x-preserved
loop-x-preserved c = record {
  node = λ n. told_more (named n) (type_at n) (option_map (λ (s : Entry). s.node) (get node_cmp c.loop-x.nodes n)) (option_map (λ (s : Entry). s.node) (get node_cmp c.add_node.new.nodes n))
      c.args.flat.now c.loop-x.x-index c.x-item.result c.x-item.result c.loop-x-test.true (sym c.x-item.is) (c.loop-x.invariant.node n) (c.in_ok-add_node.ensures.node n);
  place = λ n. said_more (place_at n) (option_map (λ (s : Entry). s.place) (get node_cmp c.loop-x.nodes n)) (option_map (λ (s : Entry). s.place) (get node_cmp c.add_node.new.nodes n))
      c.args.flat.now c.loop-x.x-index c.x-item.result c.x-item.result c.loop-x-test.true (sym c.x-item.is) (c.loop-x.invariant.place n) (c.in_ok-add_node.ensures.place n);
}
