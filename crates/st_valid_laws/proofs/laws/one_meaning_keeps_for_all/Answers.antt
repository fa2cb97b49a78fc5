use Rattle.st_valid_laws.proofs.OneMeaning.{keeps_as_one}
use Rattle.st_valid_laws.proofs.laws.one_meaning_keeps_for_all.Goals as goal

pub returns : goal.returns
returns c = keeps_as_one
