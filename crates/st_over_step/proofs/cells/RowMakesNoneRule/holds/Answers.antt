use Rattle.std.proofs.Common.{◌≡◌, [], ◌∷◌}
use Rattle.st_marks.specs.declared.marks.Mark.{Mark}
use Rattle.st_marks.specs.Listings.{cell_made, cells_made}
use Rattle.st_marks.specs.Row.{spread}
use Rattle.st_over_step.proofs.Along.{along}
use Rattle.st_over_step.proofs.InMarks.{each_mark_none}
use Rattle.st_over_step.proofs.cells.RowMakesNoneRule.holds.Goals as goal

pub returns : goal.returns
returns c = along (λ (m : Mark). cells_made (spread (m ∷ [])) ≡ []) _ _ _ _ c.as_slice.ensures c.each_of.ensures (each_mark_none cell_made c.args.row.now.marks)
