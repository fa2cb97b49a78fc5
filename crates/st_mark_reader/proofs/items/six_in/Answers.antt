use Rattle.st_mark_reader.proofs.Lengths.{other_than_six}
use Rattle.st_mark_reader.proofs.items.six_in.Goals as goal

pub returns-else-values-eq6 : goal.returns-else-values-eq6
returns-else-values-eq6 c = other_than_six c.args.values.now c.if-values-eq6.false
