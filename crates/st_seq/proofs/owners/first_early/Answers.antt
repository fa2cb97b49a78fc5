use Rattle.std.proofs.Common.{◌+◌, arith}
use Rattle.st_marks.specs.declared.marks.Mark.{Mark}
use Rattle.st_seq.proofs.NamedCells.{left_before, front_before}
use Rattle.st_seq.proofs.OwnersEarly.{early_on}
use Rattle.st_seq.proofs.owners.first_early.Goals as goal

pub overflow_add-left : goal.overflow_add-left
overflow_add-left c =
    let e = left_before c.args.marks.now c.loop-mark.mark-index c.loop-mark.left c.cells_found-left.result (Mark.Skip 0) c.loop-mark-test.true c.loop-mark.invariant.left c.cells_found-left.ensures in
    let f = front_before c.args.marks.now (c.loop-mark.mark-index + 1) 4294967296 c.requires in
    omega (arith, e, f)

pub loop-mark-preserved : goal.loop-mark-preserved
loop-mark-preserved c = record {
  place = λ N M h w. early_on N M c.args.marks.now c.loop-mark.mark-index c.loop-mark.left (Mark.Skip 0) c.loop-mark.place c.early_mark.result c.lesser-place.result c.loop-mark-test.true (c.loop-mark.invariant.place N M h w) c.loop-mark.invariant.left (c.early_mark.ensures N M h w) c.lesser-place.ensures;
  left = left_before c.args.marks.now c.loop-mark.mark-index c.loop-mark.left c.cells_found-left.result (Mark.Skip 0) c.loop-mark-test.true c.loop-mark.invariant.left c.cells_found-left.ensures;
}
