use Rattle.st_load_laws.proofs.Drawing.{drawn_goes}
use Rattle.st_load_laws.proofs.Joining.{joins_load}
use Rattle.st_load_laws.proofs.laws.loads_grow_slowly.Goals as goal

pub returns : goal.returns
returns c = record { joined = joins_load; drawn = drawn_goes }
