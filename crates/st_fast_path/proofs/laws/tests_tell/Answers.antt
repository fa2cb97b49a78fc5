use Rattle.st_fast_path.proofs.TestsTell.{they_pass}
use Rattle.st_fast_path.proofs.laws.tests_tell.Goals as goal

pub returns : goal.returns
returns c = they_pass
