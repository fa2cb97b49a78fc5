use Rattle.std.proofs.Common.{◌∙◌, ap, refl}
use Rattle.std.specs.List.{list_any}
use Rattle.st_marks.specs.declared.marks.RowMarks.{RowMarks}
use Rattle.st_marks.specs.Row.{spread}
use Rattle.st_author_over.specs.inside.Seen.{slots_in}
use Rattle.st_author_over.specs.inside.Side.{is_make}
use Rattle.st_author_over.proofs.FreeCells.{free_by_name, quiet_is_free}
use Rattle.st_author_over.proofs.cells.cells_are_free.Goals as goal

pub returns-then-rows_make : goal.returns-then-rows_make
returns-then-rows_make c =
    let named = free_by_name c.args.forest.now c.args.step.now c.args.change.now c.all_are_free.ensures.ordered in
    let free = c.all_are_free.ensures.free in
    (λ t. named.0 (free.0 t), λ h. free.1 (named.1 h))

pub returns-else-rows_make : goal.returns-else-rows_make
returns-else-rows_make c =
    (λ t n. quiet_is_free c.args.step.now c.args.change.now c.rows_make.result (c.rows_make.ensures ∙ ap (list_any (λ (r : RowMarks). list_any is_make (spread r.marks))) c.as_slice.ensures) c.if-rows_make.false (slots_in c.args.forest.now n), λ h. refl)
