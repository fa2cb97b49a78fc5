use Rattle.std.proofs.Common.{arith}
use Rattle.std.specs.BTreeMap.{get}
use Rattle.st_ids.specs.Order.{node_cmp}
use Rattle.st_turn_places.proofs.NodesTwice.{table_more, whole_table}
use Rattle.st_turn_places.proofs.places.table_of.Goals as goal

pub loop-at-preserved : goal.loop-at-preserved
loop-at-preserved c = (
  omega (arith, c.loop-at-test.true),
  table_more c.args.list.now c.loop-at.at c.index-list-at.result (get node_cmp c.loop-at.table) (get node_cmp c.keep.new.table) c.loop-at-test.true c.in_ok-keep.ensures c.loop-at.invariant.1,
)

pub returns : goal.returns
returns c = whole_table c.args.list.now c.loop-at.at (get node_cmp c.loop-at.table) c.loop-at-test.false c.loop-at.invariant.1
