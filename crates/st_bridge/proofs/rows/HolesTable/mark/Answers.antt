use Rattle.std.proofs.Common.{refl, ◌∙◌, sym, ap, map}
use Rattle.st_rows.specs.Pieces.{cells_of_piece}
use Rattle.st_rows.proofs.WalkLengths.{map-both_counted}
use Rattle.st_steps.specs.Across.{hole_piece}
use Rattle.st_bridge.proofs.rows.HolesTable.mark.Goals as goal

pub returns-in-Counted : goal.returns-in-Counted
returns-in-Counted c = map-both_counted hole_piece c.in-Counted.count refl ∙ ap (λ p. map hole_piece (cells_of_piece p)) (sym c.in-Counted.is)
