use Rattle.st_world_laws.proofs.Begun.{opened_start}
use Rattle.st_commit_laws.proofs.laws.opening_rows_are_short.Goals as goal

pub returns : goal.returns
returns c = λ h n k. (opened_start h k).short n
