use Rattle.std.proofs.Common.{ap, ◌∙◌}
use Rattle.st_marks.specs.Row.{spread}
use Rattle.st_rows.proofs.MergedMarks.{merged_is}
use Rattle.st_steps.specs.Across.{with_holes}
use Rattle.st_bridge.proofs.rows.row_with_holes.Goals as goal

pub returns : goal.returns
returns c =
    let change = ap spread c.as_slice.ensures in
    let step = ap spread c.as_slice-2.ensures in
    let says = merged_is c.in_ok-marks.marks (with_holes (spread c.args.change.now) (spread c.args.step.now)) c.in_ok-marks.ensures.merged (c.in_ok-marks.ensures.cells ∙ (λ i. with_holes (change i) (step i))) in
    λ i. record { node = c.args.node; marks = says i }
