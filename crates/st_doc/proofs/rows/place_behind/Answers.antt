use Rattle.std.proofs.Common.{get_or, refl, sym}
use Rattle.st_doc.proofs.Growing.{passed_on, found_there, not_found}
use Rattle.st_doc.proofs.Look.{no_cell}
use Rattle.st_doc.proofs.rows.place_behind.Goals as goal

pub loop-i-preserved : goal.loop-i-preserved
loop-i-preserved c =
    passed_on c.args.cell c.args.row.now c.loop-i.i no_cell (get_or c.args.row.now c.loop-i.i no_cell) c.loop-i-test.true refl c.loop-i.invariant (sym c.if-is_same_cell.ensures)

pub returns-then-is_same_cell : goal.returns-then-is_same_cell
returns-then-is_same_cell c =
    found_there c.args.cell c.args.row.now c.loop-i.i no_cell (get_or c.args.row.now c.loop-i.i no_cell) c.loop-i-test.true refl c.loop-i.invariant (sym c.if-is_same_cell.ensures)

pub returns : goal.returns
returns c = not_found c.args.cell c.args.row.now c.loop-i.i c.loop-i-test.false c.loop-i.invariant
