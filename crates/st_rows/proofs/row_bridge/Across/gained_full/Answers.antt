use Rattle.std.proofs.Common.{ap, ◌∙◌}
use Rattle.std.specs.BTreeMap.{get}
use Rattle.st_ids.specs.Order.{node_cmp}
use Rattle.st_rows.specs.Views.{view_after}
use Rattle.st_rows.specs.Cells.{gained_cell}
use Rattle.st_rows.proofs.MarkByMark.{cell_is}
use Rattle.st_rows.proofs.row_bridge.Across.gained_full.Goals as goal

pub returns-else-self : goal.returns-else-self
returns-else-self c =
    let one = cell_is c.gained_cell.result (gained_cell (get node_cmp c.args.self.now.seen.now) c.args.cell c.args.node c.args.full) c.gained_cell.ensures in
    rw c.if-self.false (ap (λ s. s.full) c.after.ensures ∙ ap (λ x. (view_after x).full) one)
