use Rattle.std.proofs.Common.{◌+◌, arith}
use Rattle.st_marks.specs.declared.marks.Mark.{Mark}
use Rattle.st_seq.proofs.NamedCells.{standing_before_on, before_on, left_before, front_before}
use Rattle.st_seq.proofs.name_clashes.named_before.Goals as goal

pub overflow_add-left : goal.overflow_add-left
overflow_add-left c =
    let e = left_before c.args.marks.now c.loop-mark.mark-index c.loop-mark.left c.cells_found-left.result (Mark.Skip 0) c.loop-mark-test.true c.loop-mark.invariant.left c.cells_found-left.ensures in
    let f = front_before c.args.marks.now (c.loop-mark.mark-index + 1) 4294967296 c.requires in
    omega (arith, e, f)

pub loop-mark-preserved : goal.loop-mark-preserved
loop-mark-preserved c = record {
  cells = before_on c.args.marks.now c.loop-mark.mark-index c.loop-mark.left (Mark.Skip 0) c.loop-mark.out.cells c.push_names.new.out.cells _ c.loop-mark-test.true c.loop-mark.invariant.cells c.loop-mark.invariant.left c.name_before.ensures c.in_ok-push_names.ensures.cells;
  nodes = standing_before_on c.args.marks.now c.loop-mark.mark-index c.loop-mark.left (Mark.Skip 0) c.loop-mark.out.nodes c.push_names.new.out.nodes _ c.loop-mark-test.true c.loop-mark.invariant.nodes c.loop-mark.invariant.left c.standing_before.ensures c.in_ok-push_names.ensures.nodes;
  left = left_before c.args.marks.now c.loop-mark.mark-index c.loop-mark.left c.cells_found-left.result (Mark.Skip 0) c.loop-mark-test.true c.loop-mark.invariant.left c.cells_found-left.ensures;
}
