use Rattle.st_script.proofs.Fits.{line_fits}
use Rattle.st_script.proofs.laws.read_steps_fit_lines.Goals as goal

pub returns : goal.returns
returns c = line_fits
