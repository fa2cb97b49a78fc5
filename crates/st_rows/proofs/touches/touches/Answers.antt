use Rattle.std.specs.BTreeMap.{get}
use Rattle.st_ids.specs.Order.{node_cmp}
use Rattle.st_marks.specs.declared.marks.Mark.{Mark}
use Rattle.st_rows.proofs.TouchMaps.{touched_on}
use Rattle.st_rows.proofs.touches.touches.Goals as goal

pub loop-mark-preserved : goal.loop-mark-preserved
loop-mark-preserved c = λ n. touched_on c.args.marks.now c.loop-mark.mark-index (Mark.Skip 0) n (get node_cmp c.add.new.touches n) (get node_cmp c.loop-mark.map n) c.loop-mark-test.true (c.loop-mark.invariant n) (c.in_ok-add.ensures n)
