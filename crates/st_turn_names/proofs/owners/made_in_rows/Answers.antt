use Rattle.std.proofs.Common.{[], ◌++◌, ap, sym, ◌∙◌}
use Rattle.st_marks.specs.declared.marks.RowMarks.{RowMarks}
use Rattle.st_marks.specs.Listings.{cells_made}
use Rattle.st_marks.specs.Row.{spread}
use Rattle.st_clash.proofs.LeastFields.{flat_more}
use Rattle.st_turn_names.proofs.owners.made_in_rows.Goals as goal

pub loop-row-preserved : goal.loop-row-preserved
loop-row-preserved c =
    flat_more (λ (r : RowMarks). cells_made (spread r.marks)) [] c.loop-row.list c.add_made.new.list c.args.rows.now c.loop-row.row-index
    c.row-item.result c.row-item.result c.loop-row-test.true (sym c.row-item.is) c.loop-row.invariant
    (c.in_ok-add_made.ensures ∙ ap (λ ms. c.loop-row.list ++ cells_made (spread ms)) c.as_slice.ensures)
