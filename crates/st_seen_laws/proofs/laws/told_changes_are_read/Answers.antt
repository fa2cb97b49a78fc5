use Rattle.st_seen_laws.proofs.Reading.{change_read}
use Rattle.st_seen_laws.proofs.laws.told_changes_are_read.Goals as goal

pub returns : goal.returns
returns c = λ log session reference ids C few within can normal. change_read log session reference ids few within C can normal
