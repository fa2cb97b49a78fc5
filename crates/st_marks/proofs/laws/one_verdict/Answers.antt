use Rattle.st_marks.proofs.OneVerdict.{one_verdict, one_carried}
use Rattle.st_marks.proofs.laws.one_verdict.Goals as goal

pub returns : goal.returns
returns c = record { verdict = one_verdict; carried = one_carried }
