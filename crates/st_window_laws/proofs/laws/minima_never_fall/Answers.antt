use Rattle.st_window_laws.proofs.Floors.{minimum_entered}
use Rattle.st_window_laws.proofs.laws.minima_never_fall.Goals as goal

pub returns : goal.returns
returns c = minimum_entered
