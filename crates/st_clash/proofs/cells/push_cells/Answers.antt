use Rattle.std.specs.BTreeSet.{contains}
use Rattle.st_ids.specs.Order.{cell_cmp}
use Rattle.st_clash.proofs.ClashFields.{cells_added}
use Rattle.st_clash.proofs.cells.push_cells.Goals as goal

pub returns : goal.returns
returns c =
    cells_added c.args.change.now c.args.step.now c.requires.rows c.requires.rows_over c.as_slice-rows.result.now c.as_slice-others.result.now c.as_slice-rows.ensures c.as_slice-others.ensures
    (contains cell_cmp c.in_ok-bad.bad) c.in_ok-bad.ensures c.args.found.now c.push_both.new.found c.push_both.result c.push_both.ensures
