use Rattle.st_script.proofs.OfForm.{line_formed}
use Rattle.st_script.proofs.laws.read_steps_are_of_form.Goals as goal

pub returns : goal.returns
returns c = line_formed
