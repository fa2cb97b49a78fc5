use Rattle.std.proofs.Common.{sym}
use Rattle.std.specs.BTreeMap.{get}
use Rattle.st_ids.specs.Order.{node_cmp}
use Rattle.st_turn_places.specs.declared.places.Placed.{Placed}
use Rattle.st_turn_places.specs.inside.Sides.{if_free}
use Rattle.st_clash.proofs.LeastFields.{flat_more}
use Rattle.st_turn_places.proofs.places.add_found.Goals as goal

pub loop-placed-preserved : goal.loop-placed-preserved
loop-placed-preserved c =
    flat_more (λ (p : Placed). if_free (get node_cmp c.args.table.now) p.node) c.args.list.now c.loop-placed.list c.add_if_free.new.list c.args.found.now c.loop-placed.placed-index
    c.placed-item.result c.placed-item.result c.loop-placed-test.true (sym c.placed-item.is) c.loop-placed.invariant c.in_ok-add_if_free.ensures
