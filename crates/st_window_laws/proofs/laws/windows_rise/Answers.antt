use Rattle.st_window_laws.proofs.Windowed.{risen}
use Rattle.st_window_laws.proofs.laws.windows_rise.Goals as goal

pub returns : goal.returns
returns c = risen
