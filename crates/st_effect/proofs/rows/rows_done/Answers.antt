use Rattle.std.proofs.Common.{◌<◌, ◌^◌, length}
use Rattle.st_marks.specs.declared.marks.RowMarks.{RowMarks}
use Rattle.st_marks.specs.Row.{spread}
use Rattle.st_effect.specs.inside.Done.{row_done}
use Rattle.st_effect.proofs.ListLoops.{all_at, each_more}
use Rattle.st_effect.proofs.rows.rows_done.Goals as goal

pub row_done-requires-clause-short : goal.row_done-requires-clause-short
row_done-requires-clause-short c = all_at (λ (r : RowMarks). length (spread r.marks) < 2 ^ 32) c.args.rows.now c.loop-row.row-index c.row-item.result c.loop-row-test.true c.row-item.is c.requires.short

pub loop-row-preserved : goal.loop-row-preserved
loop-row-preserved c =
    each_more (row_done c.args.void c.args.new.now) c.args.rows.now c.loop-row.row-index c.row-item.result c.loop-row.done c.push.new.self c.in_ok-row_done.field-0
    c.loop-row-test.true c.row-item.is c.loop-row.invariant c.in_ok-row_done.ensures c.in_ok-push.ensures.ok
