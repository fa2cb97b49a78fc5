use Rattle.std.proofs.Common.{ap, ◌∙◌, subst}
use Rattle.st_marks.specs.Row.{spread, step_row}
use Rattle.st_marks.specs.Listings.{cells_before}
use Rattle.st_rows.specs.Views.{row_views, DifferAt}
use Rattle.st_rows.specs.Differences.{first_difference}
use Rattle.st_rows.specs.Turns.{after_row}
use Rattle.st_rows.proofs.RowsAfter.{after_row-step_row, row_itself}
use Rattle.st_rows.proofs.NoErrors.{none_apart}
use Rattle.st_rows.proofs.ViewsOfRows.{no_difference, step_finds}
use Rattle.st_rows.proofs.KindLaws.{spread_of}
use Rattle.st_kind.specs.Refused.{IsApartWhere}
use Rattle.st_rows.proofs.Differences.{apart_where}
use Rattle.st_rows.proofs.rows.after.Goals as goal

pub returns-clause-after : goal.returns-clause-after
returns-clause-after c = λ m d s.
    let row = c.as_slice.ensures in
    let step = ap spread c.as_slice-2.ensures ∙ spread_of c.args.step.now (step_row m s.grows) s.says in
    none_apart _ c.slots_after.result c.slots_after.ensures.cells c.slots_after.ensures.cells c.slots_after.ensures.apart
    ((λ i. first_difference (row_views (row i)) (cells_before (step i))) ∙ no_difference c.args.row.now (row_views c.args.row.now) (cells_before (step_row m s.grows)) (row_itself c.args.row.now) (step_finds m s.grows))
    (λ e h k. h ∙ (λ i. after_row (row i) (step i)) ∙ after_row-step_row m s.grows)

pub returns-clause-apart : goal.returns-clause-apart
returns-clause-apart c = subst (λ x. IsApartWhere c.slots_after.result (DifferAt (row_views x) (cells_before (spread c.args.step.now)))) c.as_slice.ensures
    (subst (λ y. IsApartWhere c.slots_after.result (DifferAt (row_views c.as_slice.result.now) (cells_before (spread y)))) c.as_slice-2.ensures
    (apart_where (row_views c.as_slice.result.now) (cells_before (spread c.as_slice-2.result.now)) c.slots_after.result c.slots_after.ensures.apart))
