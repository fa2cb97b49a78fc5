use Rattle.std.proofs.Common.{arith}
use Rattle.std.specs.BTreeMap.{get}
use Rattle.st_ids.specs.Order.{node_cmp, same_node}
use Rattle.st_ids.specs.Root.{root}
use Rattle.st_part_rings.proofs.UpTables.{up_more, whole_up}
use Rattle.st_part_rings.proofs.rings.uppers.Goals as goal

pub loop-at-preserved : goal.loop-at-preserved
unfolding same_node
loop-at-preserved c = (
  omega (arith, c.loop-at-test.true),
  up_more c.args.links.now c.loop-at.at (record { node = root; up = root }) (get node_cmp c.loop-at.up) (get node_cmp c.keep.new.up) c.loop-at-test.true c.in_ok-keep.ensures c.loop-at.invariant.1,
)

pub returns : goal.returns
returns c = whole_up c.args.links.now c.loop-at.at (get node_cmp c.loop-at.up) c.loop-at-test.false c.loop-at.invariant.1
