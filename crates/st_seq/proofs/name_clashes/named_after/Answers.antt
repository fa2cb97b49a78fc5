use Rattle.std.proofs.Common.{◌+◌, arith}
use Rattle.st_marks.specs.declared.marks.Mark.{Mark}
use Rattle.st_seq.proofs.NamedCells.{standing_after_on, after_on, left_after, front_after}
use Rattle.st_seq.proofs.name_clashes.named_after.Goals as goal

pub overflow_add-left : goal.overflow_add-left
overflow_add-left c =
    let e = left_after c.args.marks.now c.loop-mark.mark-index c.loop-mark.left c.left_by-left.result (Mark.Skip 0) c.loop-mark-test.true c.loop-mark.invariant.left c.left_by-left.ensures in
    let f = front_after c.args.marks.now (c.loop-mark.mark-index + 1) 4294967296 c.requires in
    omega (arith, e, f)

pub loop-mark-preserved : goal.loop-mark-preserved
loop-mark-preserved c = record {
  cells = after_on c.args.marks.now c.loop-mark.mark-index c.loop-mark.left (Mark.Skip 0) c.loop-mark.out.cells c.push_names.new.out.cells _ c.loop-mark-test.true c.loop-mark.invariant.cells c.loop-mark.invariant.left c.name_after.ensures c.in_ok-push_names.ensures.cells;
  nodes = standing_after_on c.args.marks.now c.loop-mark.mark-index c.loop-mark.left (Mark.Skip 0) c.loop-mark.out.nodes c.push_names.new.out.nodes _ c.loop-mark-test.true c.loop-mark.invariant.nodes c.loop-mark.invariant.left c.standing_after.ensures c.in_ok-push_names.ensures.nodes;
  left = left_after c.args.marks.now c.loop-mark.mark-index c.loop-mark.left c.left_by-left.result (Mark.Skip 0) c.loop-mark-test.true c.loop-mark.invariant.left c.left_by-left.ensures;
}
