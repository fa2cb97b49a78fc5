use Rattle.st_equal_laws.proofs.ShownAlike.{show_alike}
use Rattle.st_equal_laws.proofs.laws.received_alike_show_alike.Goals as goal

pub returns : goal.returns
returns c = show_alike
