use Rattle.st_window_laws.proofs.Floors.{floor_rises, floor_within}
use Rattle.st_window_laws.proofs.laws.floors_never_fall.Goals as goal

pub returns-clause-one_more : goal.returns-clause-one_more
returns-clause-one_more c = floor_rises

pub returns-clause-within : goal.returns-clause-within
returns-clause-within c = floor_within
