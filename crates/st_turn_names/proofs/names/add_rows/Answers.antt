use Rattle.std.proofs.Common.{sym, ◌∷◌}
use Rattle.st_marks.specs.declared.marks.RowMarks.{RowMarks}
use Rattle.st_marks.specs.Listings.{nodes_in}
use Rattle.st_marks.specs.Row.{spread}
use Rattle.st_clash.proofs.LeastFields.{flat_more}
use Rattle.st_turn_names.proofs.names.add_rows.Goals as goal

pub loop-row-preserved : goal.loop-row-preserved
loop-row-preserved c =
    flat_more (λ (r : RowMarks). r.node ∷ nodes_in (spread r.marks)) c.args.names.now c.loop-row.names c.add_row.new.names c.args.rows.now c.loop-row.row-index
    c.row-item.result c.row-item.result c.loop-row-test.true (sym c.row-item.is) c.loop-row.invariant c.in_ok-add_row.ensures
