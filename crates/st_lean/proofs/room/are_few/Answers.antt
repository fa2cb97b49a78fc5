use Rattle.std.proofs.Common.{List, min, ap, arith, ◌∙◌, ◌^◌, ◌+◌, ◌<◌}
use Rattle.std.proofs.lemmas.Bool.Decides.{nat_tests}
use Rattle.st_marks.specs.declared.marks.RowMarks.{RowMarks}
use Rattle.st_lean.proofs.FewCells.{few, few_have_room}
use Rattle.st_lean.specs.inside.Room.{cells_listed}
use Rattle.st_lean.proofs.room.are_few.Goals as goal

pub returns : goal.returns
returns c e =
    let less : c.listed.result + c.listed-2.result < 2 ^ 32 = grind (arith, nat_tests, e) in
    few_have_room c.args.change.now c.args.step.now
    (few c.listed.result c.listed-2.result (cells_listed c.args.change.now) (cells_listed c.args.step.now)
    (c.listed.ensures ∙ ap (λ (l : List RowMarks). min (cells_listed l) (2 ^ 32)) c.as_slice.ensures)
    (c.listed-2.ensures ∙ ap (λ (l : List RowMarks). min (cells_listed l) (2 ^ 32)) c.as_slice-2.ensures) less)
