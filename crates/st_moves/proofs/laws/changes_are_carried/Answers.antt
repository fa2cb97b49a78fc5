use Rattle.st_moves.proofs.ChangeCarried.{change_carried}
use Rattle.st_moves.proofs.laws.changes_are_carried.Goals as goal

pub returns : goal.returns
returns c = λ D E N C X S m x f g w change step beside. change_carried D E N x f g C S change step m w X beside
