use Rattle.std.proofs.Common.{[], ◌∷◌}
use Rattle.st_marks.specs.declared.marks.Mark.{Mark}
use Rattle.st_normal.specs.Rules.{hole_owner}
use Rattle.st_over_step.specs.inside.Tables.{IsKnown, OwnersAreKnown}
use Rattle.st_over_step.proofs.Along.{along}
use Rattle.st_over_step.proofs.InMarks.{each_mark}
use Rattle.st_over_step.proofs.owners.HasKnownOwnersRule.holds.Goals as goal

pub returns : goal.returns
returns c = along (λ (m : Mark). OwnersAreKnown c.args.self.now.forest.now c.args.self.now.new.now (m ∷ [])) _ _ _ _ c.as_slice.ensures c.each_of.ensures (each_mark hole_owner (IsKnown c.args.self.now.forest.now c.args.self.now.new.now) c.args.row.now.marks)
