use Rattle.std.proofs.Common.{◌∙◌}
use Rattle.std.specs.BTreeMap.{get}
use Rattle.std.specs.BTreeSet.{contains}
use Rattle.st_ids.specs.Order.{node_cmp}
use Rattle.st_marks.specs.Row.{spread}
use Rattle.st_moves.proofs.BareRows.{listed_merged}
use Rattle.st_reading.specs.Over.{over_row}
use Rattle.st_over.proofs.rows.row_both.Goals as goal

pub returns : goal.returns
returns g c =
    let cells = over_row g.R.Reading.listed (get node_cmp c.args.aims.now.puts.now) (contains node_cmp c.args.aims.now.named.now) (spread c.args.change.now) (spread c.args.step.now) in
    c.told_row.ensures ∙ listed_merged c.args.node c.in_ok-marks.marks cells c.in_ok-marks.ensures.cells.0 (c.in_ok-marks.ensures.cells.1
    ∙ (λ i. over_row g.R.Reading.listed (get node_cmp c.args.aims.now.puts.now) (contains node_cmp c.args.aims.now.named.now) (spread (c.as_slice.ensures i)) (spread (c.as_slice-2.ensures i))))
