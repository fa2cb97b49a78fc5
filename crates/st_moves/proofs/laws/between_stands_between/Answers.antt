use Rattle.st_moves.proofs.BetweenSound.{extended_after, extends_before}
use Rattle.st_moves.proofs.laws.between_stands_between.Goals as goal

pub returns-clause-earlier : goal.returns-clause-earlier
returns-clause-earlier c = λ D E m x closed. extends_before D E m x closed

pub returns-clause-later : goal.returns-clause-later
returns-clause-later c = λ D E m x closed. extended_after D E m x closed
