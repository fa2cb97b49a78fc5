use Rattle.st_moves.proofs.BetweenSound.{fits_between}
use Rattle.st_moves.proofs.laws.intents_fit_between.Goals as goal

pub returns : goal.returns
returns c = λ D E N m f g. fits_between D E m N f g
