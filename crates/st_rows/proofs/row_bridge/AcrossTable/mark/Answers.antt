use Rattle.std.proofs.Common.{◌∙◌, sym, ap, map}
use Rattle.std.specs.BTreeMap.{get}
use Rattle.st_ids.specs.Order.{node_cmp}
use Rattle.st_rows.specs.Cells.{bridged_piece}
use Rattle.st_rows.specs.Changes.{placed_by}
use Rattle.st_rows.specs.Pieces.{cells_of_piece}
use Rattle.st_rows.proofs.RowBridges.{counted_stays}
use Rattle.st_rows.proofs.WalkLengths.{map-both_counted}
use Rattle.st_rows.proofs.row_bridge.AcrossTable.mark.Goals as goal

pub returns-in-Counted : goal.returns-in-Counted
returns-in-Counted c =
    let table = c.args.self.now in
    let cell = bridged_piece table.was_void table.is_void (placed_by table.in_new table.new.now) (get node_cmp table.seen.now) in
    map-both_counted cell c.in-Counted.k (counted_stays table.was_void table.is_void (get node_cmp table.seen.now)) ∙ ap (λ p. map cell (cells_of_piece p)) (sym c.in-Counted.is)
