use Rattle.st_window_laws.proofs.Windowed.{passed}
use Rattle.st_window_laws.proofs.laws.windows_pass_others.Goals as goal

pub returns : goal.returns
returns c = passed
