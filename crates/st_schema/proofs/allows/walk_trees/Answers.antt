use Rattle.std.proofs.Common.{◌∙◌, sym, ap, None}
use Rattle.st_tree.specs.Node.{view, trees_view}
use Rattle.st_tree.specs.Size.{item_count}
use Rattle.st_schema.specs.Conforms.{items_verdicts}
use Rattle.st_schema.specs.inside.Conforms.{walk_over}
use Rattle.st_schema.proofs.Walking.{items_next, items_end, items_number, items_walked}
use Rattle.st_schema.proofs.allows.walk_trees.Goals as goal

pub loop-tree-preserved : goal.loop-tree-preserved
loop-tree-preserved c =
    let s = c.args.schema.now in
    let types = c.args.types.now in
    let ts = c.args.trees.now in
    let next = items_next ts c.loop-tree.tree-index c.tree-item.result c.loop-tree-test.true c.tree-item.is in record {
      number = items_number s types _ _ (view c.tree-item.result) next c.loop-tree.now.next c.walk_tree-now.result.next (item_count (trees_view ts)) c.walk_tree-now.ensures.counted c.loop-tree.invariant.number;
      walked = items_walked s types _ _ (view c.tree-item.result) next c.loop-tree.now c.walk_tree-now.result (walk_over (record { next = 0; fault = None }) (items_verdicts s types (trees_view ts))) c.walk_tree-now.ensures.walked c.loop-tree.invariant.walked;
    }

pub returns : goal.returns
returns c =
    let s = c.args.schema.now in
    let types = c.args.types.now in
    ap (λ us. walk_over c.loop-tree.now (items_verdicts s types us)) (sym (items_end c.args.trees.now c.loop-tree.tree-index c.loop-tree-test.false)) ∙ c.loop-tree.invariant.walked
