use Rattle.std.proofs.Common.{refl, ◌∙◌, sym, ap, map}
use Rattle.st_rows.specs.Pieces.{cells_of_piece}
use Rattle.st_rows.proofs.WalkLengths.{map-both_counted}
use Rattle.st_thin.specs.inside.Thinning.{thinned}
use Rattle.st_thin.proofs.rows.ThinningTable.mark.Goals as goal

pub returns-in-Counted : goal.returns-in-Counted
returns-in-Counted c = map-both_counted thinned c.in-Counted.k refl ∙ ap (λ p. map thinned (cells_of_piece p)) (sym c.in-Counted.is)
