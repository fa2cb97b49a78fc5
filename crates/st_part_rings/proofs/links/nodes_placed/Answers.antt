use Rattle.std.proofs.Common.{false, sym}
use Rattle.std.specs.BTreeSet.{contains}
use Rattle.st_ids.specs.Order.{node_cmp}
use Rattle.st_turn_places.specs.declared.places.Placed.{Placed}
use Rattle.st_climb.proofs.GrownSets.{added_mapped}
use Rattle.st_part_rings.proofs.links.nodes_placed.Goals as goal

pub loop-placed-preserved : goal.loop-placed-preserved
loop-placed-preserved c = λ n.
    added_mapped (λ (p : Placed). p.node) false (contains node_cmp c.loop-placed.set n) (contains node_cmp c.add_one.new.set n) n
    c.args.places.now c.loop-placed.placed-index c.placed-item.result c.placed-item.result c.loop-placed-test.true (sym c.placed-item.is)
    (c.loop-placed.invariant n) (c.in_ok-add_one.ensures n)
