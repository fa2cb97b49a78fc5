use Rattle.std.proofs.Common.{◌∙◌}
use Rattle.std.specs.BTreeMap.{get}
use Rattle.std.specs.BTreeSet.{contains}
use Rattle.st_ids.specs.Order.{node_cmp}
use Rattle.st_marks.specs.Row.{spread}
use Rattle.st_moves.proofs.BareRows.{listed_merged}
use Rattle.st_reading.specs.Bridge.{crossed_row}
use Rattle.st_cross.specs.Fields.{placed_in}
use Rattle.st_cross.proofs.rows.row_both.Goals as goal

pub returns : goal.returns
returns g c =
    let cells = crossed_row g.R.Reading.listed c.args.across.now.was c.args.across.now.is (placed_in (contains node_cmp c.args.across.now.made.now) c.args.node) (get node_cmp c.args.across.now.puts.now) (spread c.args.change.now) (spread c.args.step.now) in
    c.told_row.ensures ∙ listed_merged c.args.node c.in_ok-marks.marks cells c.in_ok-marks.ensures.0 c.in_ok-marks.ensures.1
