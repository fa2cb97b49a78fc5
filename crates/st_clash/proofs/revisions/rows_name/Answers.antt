use Rattle.std.proofs.Common.{ap, arith, sym, ◌∙◌}
use Rattle.std.specs.List.{list_any}
use Rattle.st_marks.specs.declared.marks.RowMarks.{RowMarks}
use Rattle.st_marks.specs.Listings.{cells_in}
use Rattle.st_marks.specs.Row.{spread}
use Rattle.st_clash.specs.inside.Made.{is_of}
use Rattle.st_clash.proofs.OneRevision.{any-inside, no-more, none-inside}
use Rattle.st_clash.proofs.revisions.rows_name.Goals as goal

pub returns-then-marks_name : goal.returns-then-marks_name
returns-then-marks_name c = sym (any-inside (is_of c.args.rev) (λ (r : RowMarks). cells_in (spread r.marks)) c.args.rows.now c.loop-row.row-index c.row-item.result c.row-item.result c.loop-row-test.true (sym c.row-item.is) (sym (ap (λ ms. list_any (is_of c.args.rev) (cells_in (spread ms))) c.as_slice.ensures) ∙ sym c.marks_name.ensures ∙ c.if-marks_name.true))

pub loop-row-preserved : goal.loop-row-preserved
loop-row-preserved c = none-inside (is_of c.args.rev) (λ (r : RowMarks). cells_in (spread r.marks)) c.args.rows.now c.loop-row.row-index c.row-item.result c.row-item.result c.loop-row-test.true (sym c.row-item.is) (sym (ap (λ ms. list_any (is_of c.args.rev) (cells_in (spread ms))) c.as_slice.ensures) ∙ sym c.marks_name.ensures ∙ c.if-marks_name.false) c.loop-row.invariant

pub returns : goal.returns
returns c = sym (no-more (is_of c.args.rev) (λ (r : RowMarks). cells_in (spread r.marks)) c.args.rows.now c.loop-row.row-index (omega arith) c.loop-row.invariant)
