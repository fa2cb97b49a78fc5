use Rattle.std.proofs.Common.{refl, ◌∙◌, sym, ap, map}
use Rattle.st_listed.specs.Named.{step_piece}
use Rattle.st_rows.specs.Pieces.{cells_of_piece}
use Rattle.st_rows.proofs.WalkLengths.{map-both_counted}
use Rattle.st_listed.proofs.rows.StepAndRowTable.mark.Goals as goal

pub returns-in-Counted : goal.returns-in-Counted
returns-in-Counted c = map-both_counted step_piece c.in-Counted.k refl ∙ ap (λ p. map step_piece (cells_of_piece p)) (sym c.in-Counted.is)
