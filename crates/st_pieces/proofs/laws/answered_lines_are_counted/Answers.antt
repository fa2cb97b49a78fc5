use Rattle.st_pieces.proofs.Counting.{counted}
use Rattle.st_pieces.proofs.laws.answered_lines_are_counted.Goals as goal

pub returns : goal.returns
returns g c = λ first s ls n start text a. counted g.R.Responder.Takes first a
