use Rattle.std.proofs.Common.{◌∙◌, sym, ap, map}
use Rattle.std.specs.BTreeMap.{get}
use Rattle.std.specs.BTreeSet.{contains}
use Rattle.st_ids.specs.Order.{node_cmp}
use Rattle.st_marks.specs.Row.{CellMark}
use Rattle.st_rows.specs.Pieces.{cells_of_piece}
use Rattle.st_rows.specs.Walks.{CellPiece}
use Rattle.st_rows.proofs.WalkLengths.{map-both_counted}
use Rattle.st_reading.specs.Bridge.{crossed_piece}
use Rattle.st_read_laws.specs.Reading.{read}
use Rattle.st_reading.proofs.DocumentRowsCrossed.{counted_stays}
use Rattle.st_reading.proofs.cross.AcrossTable.mark.Goals as goal

pub returns-in-Counted : goal.returns-in-Counted
returns-in-Counted g c =
    let l = g.R.Reading.listed in
    let placed = contains node_cmp c.args.self.now.placed.now in
    let t = get node_cmp c.args.self.now.puts.now in
    let f : CellPiece → CellMark = λ p. read l (crossed_piece c.args.self.now.was c.args.self.now.is placed t p) in
    map-both_counted f c.in-Counted.k (counted_stays l c.args.self.now.was c.args.self.now.is placed t) ∙ ap (λ p. map f (cells_of_piece p)) (sym c.in-Counted.is)
