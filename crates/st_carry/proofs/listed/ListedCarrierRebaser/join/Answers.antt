use Rattle.st_marks.specs.CarryOut.{full}
use Rattle.st_read_laws.proofs.Readings.{listed_read, read_listed}
use Rattle.st_carry.proofs.ThinValues.{ok_weaker}
use Rattle.st_carry.proofs.listed.ListedCarrierRebaser.join.Goals as goal

pub returns : goal.returns
returns c = λ D N M J x p j alone long d e. ok_weaker c.join_of.result (λ r w. listed_read D J r w) (c.join_of.ensures.exact D N M J x p j alone long (read_listed D N c.args.first.now d) (read_listed (full D N) M c.args.then.now e))
