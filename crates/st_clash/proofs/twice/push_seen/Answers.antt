use Rattle.st_ids.specs.Listing.{item_of}
use Rattle.st_ids.specs.Order.{cell_cmp}
use Rattle.st_clash.specs.declared.seen.Seen.{Seen}
use Rattle.st_clash.proofs.Tables.{found_with, rising_table}
use Rattle.st_clash.proofs.twice.push_seen.Goals as goal

pub returns-then-cells_rise : goal.returns-then-cells_rise
returns-then-cells_rise c =
    found_with c.args.others.now (item_of cell_cmp (λ (s : Seen). s.cell) c.args.others.now) (rising_table c.args.others.now (c.cells_rise.ensures.0 c.if-cells_rise.true)) c.push_by_search.result
    c.args.bad.now c.push_by_search.new.bad c.args.list.now c.push_by_search.ensures
