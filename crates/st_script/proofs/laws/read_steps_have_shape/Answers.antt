use Rattle.st_script.proofs.Shaped.{line_shaped}
use Rattle.st_script.proofs.laws.read_steps_have_shape.Goals as goal

pub returns : goal.returns
returns c = line_shaped
