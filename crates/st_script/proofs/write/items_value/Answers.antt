use Rattle.std.proofs.Common.{◌∙◌, sym, ap}
use Rattle.st_tree.specs.Node.{trees_view}
use Rattle.st_tree.specs.Size.{check_items}
use Rattle.st_schema.proofs.Writing.{item_written, row_written}
use Rattle.st_script.proofs.Written.{each_within}
use Rattle.st_script.proofs.write.items_value.Goals as goal

pub tree_value-requires : goal.tree_value-requires
tree_value-requires c =
    let ts = c.as_slice-tree-items.result.now in
    each_within ts c.loop-tree.tree-index c.tree-item.result (ap (λ us. check_items (trees_view us)) c.as_slice-tree-items.ensures ∙ c.requires) c.loop-tree-test.true c.tree-item.is

pub loop-tree-preserved : goal.loop-tree-preserved
loop-tree-preserved c =
    item_written c.as_slice-tree-items.result.now c.loop-tree.tree-index c.tree-item.result c.loop-tree.items.items c.push.new.self.items c.in_ok-tree_value.field-0
    c.loop-tree-test.true c.tree-item.is c.in_ok-tree_value.ensures c.in_ok-push.ensures.items c.loop-tree.invariant

pub returns : goal.returns
returns c =
    let ts = c.as_slice-tree-items.result.now in
    row_written c.loop-tree.items ts c.loop-tree.tree-index (trees_view c.args.trees.now) (sym (ap trees_view c.as_slice-tree-items.ensures)) c.loop-tree-test.false c.loop-tree.invariant
