use Rattle.st_window_laws.proofs.OneList.{one_window}
use Rattle.st_window_laws.proofs.laws.one_window.Goals as goal

pub returns : goal.returns
returns c = one_window
