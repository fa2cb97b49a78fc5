use Rattle.st_script.proofs.Again.{read_again}
use Rattle.st_script.proofs.Fits.{line_fits}
use Rattle.st_script.proofs.laws.read_steps_are_read_again.Goals as goal

pub returns : goal.returns
returns c = λ bytes s e. read_again s (line_fits bytes s e)
