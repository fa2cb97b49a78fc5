use Rattle.st_told.proofs.FitsAlike.{alike_fits}
use Rattle.st_told.proofs.laws.alike_intents_fit.Goals as goal

pub returns : goal.returns
returns c = alike_fits
