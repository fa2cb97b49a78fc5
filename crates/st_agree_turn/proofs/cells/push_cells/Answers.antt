use Rattle.st_clash.specs.Adds.{Adds}
use Rattle.st_clash.specs.Cells.{AreCellsOnce, CellsClash}
use Rattle.st_marks.specs.Listings.{listing_after_step, listing_before_change, listing_before_step}
use Rattle.st_agree_turn.specs.Rules.{CellsApart}
use Rattle.st_agree_turn.proofs.CellsTold.{OnOk-along, cells_added, rows_left_rise}
use Rattle.st_agree_turn.proofs.cells.push_cells.Goals as goal

pub push_cells-requires-clause-rows : goal.push_cells-requires-clause-rows
push_cells-requires-clause-rows c = rows_left_rise c.args.first.now.rows c.in_ok-left.left.rows c.in_ok-left.ensures c.requires.rows

pub returns : goal.returns
returns c =
    let S = c.args.first.now in
    let T = c.args.then.now in
    let K = c.in_ok-left.left in
    let once = AreCellsOnce (listing_before_step T) in
    OnOk-along c.push_cells.result (Adds c.args.found.now c.push_cells.new.found (CellsClash (listing_before_change K) (listing_before_step T)) once)
    (Adds c.args.found.now c.push_cells.new.found (CellsApart (listing_after_step S) (listing_before_step T)) once)
    (λ a. cells_added S T K c.in_ok-left.ensures c.args.found.now c.push_cells.new.found once a) c.push_cells.ensures
