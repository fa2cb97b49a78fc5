use Rattle.std.proofs.Common.{sym}
use Rattle.std.specs.BTreeMap.{get}
use Rattle.st_ids.specs.Order.{field_cmp}
use Rattle.st_tree.specs.declared.flat.FlatNode.{FlatNode as Flat}
use Rattle.st_opening.specs.Start.{held_at}
use Rattle.st_forest_start.proofs.Preordered.{said_more}
use Rattle.st_forest_start.proofs.opened.start_held.Goals as goal

pub loop-x-preserved : goal.loop-x-preserved
loop-x-preserved c = λ f.
    said_more (λ (x : Flat). held_at f x.node x.at) (get field_cmp c.loop-x.held f) (get field_cmp c.add_held.new.held f) c.args.flat.now c.loop-x.x-index c.x-item.result c.x-item.result c.loop-x-test.true (sym c.x-item.is)
    (c.loop-x.invariant f) (c.in_ok-add_held.ensures f)
