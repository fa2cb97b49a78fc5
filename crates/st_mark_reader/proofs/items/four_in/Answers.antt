use Rattle.st_mark_reader.proofs.Lengths.{other_than_four}
use Rattle.st_mark_reader.proofs.items.four_in.Goals as goal

pub returns-else-values-eq4 : goal.returns-else-values-eq4
returns-else-values-eq4 c = other_than_four c.args.values.now c.if-values-eq4.false
