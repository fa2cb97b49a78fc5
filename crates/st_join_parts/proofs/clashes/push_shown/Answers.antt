use Rattle.st_marks.specs.Listings.{listing_after_step, listing_before_step}
use Rattle.st_clash.specs.Cells.{AreCellsOnce}
use Rattle.st_agree_turn.specs.Rules.{CellsApart, RegistersApart, RowsApart}
use Rattle.st_join_parts.proofs.Rules.{added_three}
use Rattle.st_join_parts.proofs.clashes.push_shown.Goals as goal

pub returns : goal.returns
returns c =
    let L = listing_after_step c.args.first.now in
    let M = listing_before_step c.args.then.now in
    added_three c.args.found.now c.push_rows.new.found c.push_registers.new.found c.push_cells.new.found (RowsApart L M) (RegistersApart L M) (CellsApart L M) (Unit {0}) (Unit {0}) (AreCellsOnce M)
    c.in_ok-push_rows.ensures c.in_ok-push_registers.ensures c.in_ok-push_cells.ensures
