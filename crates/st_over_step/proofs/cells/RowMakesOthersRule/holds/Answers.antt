use Rattle.std.proofs.Common.{◌≢◌, [], ◌∷◌}
use Rattle.st_marks.specs.declared.marks.Mark.{Mark}
use Rattle.st_ids.specs.declared.names.CellId.{CellId}
use Rattle.st_marks.specs.Listings.{cell_made}
use Rattle.st_over_step.specs.inside.Tables.{MakesOthers}
use Rattle.st_over_step.proofs.Along.{along}
use Rattle.st_over_step.proofs.InMarks.{each_mark}
use Rattle.st_over_step.proofs.cells.RowMakesOthersRule.holds.Goals as goal

pub returns : goal.returns
returns c = along (λ (m : Mark). MakesOthers c.args.self.now.0 (m ∷ [])) _ _ _ _ c.as_slice.ensures c.each_of.ensures (each_mark cell_made (λ (d : CellId). d ≢ c.args.self.now.0) c.args.row.now.marks)
