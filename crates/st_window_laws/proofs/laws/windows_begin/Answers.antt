use Rattle.st_window_laws.proofs.Windowed.{begun}
use Rattle.st_window_laws.proofs.laws.windows_begin.Goals as goal

pub returns : goal.returns
returns c = begun
