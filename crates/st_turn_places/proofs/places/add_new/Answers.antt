use Rattle.std.proofs.Common.{sym}
use Rattle.std.specs.BTreeMap.{get}
use Rattle.st_ids.specs.Order.{node_cmp}
use Rattle.st_marks.specs.declared.changes.NewNode.{NewNode}
use Rattle.st_turn_places.specs.inside.Sides.{if_free}
use Rattle.st_clash.proofs.LeastFields.{flat_more}
use Rattle.st_turn_places.proofs.places.add_new.Goals as goal

pub loop-made-preserved : goal.loop-made-preserved
loop-made-preserved c =
    flat_more (λ (m : NewNode). if_free (get node_cmp c.args.table.now) m.node) c.args.list.now c.loop-made.list c.add_if_free.new.list c.args.new.now c.loop-made.made-index
    c.made-item.result c.made-item.result c.loop-made-test.true (sym c.made-item.is) c.loop-made.invariant c.in_ok-add_if_free.ensures
