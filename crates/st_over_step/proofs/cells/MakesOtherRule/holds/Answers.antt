use Rattle.st_over_step.proofs.Names.{other-cell}
use Rattle.st_over_step.proofs.cells.MakesOtherRule.holds.Goals as goal

pub returns-in-Make : goal.returns-in-Make
returns-in-Make c = other-cell c.args.self.now.0 c.in-Make.cell c.in-Make.node c.in-Make.full c.args.mark.now c.is_same_cell.result c.in-Make.is c.is_same_cell.ensures
