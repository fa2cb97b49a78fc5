use Rattle.st_script.proofs.Again.{read_again}
use Rattle.st_script.proofs.laws.step_lines_are_read.Goals as goal

pub returns : goal.returns
returns c = read_again
