use Rattle.st_read_laws.proofs.Readings.{step_listed_read, step_read_listed}
use Rattle.st_carry.proofs.ThinValues.{ok_weaker}
use Rattle.st_carry.proofs.listed.ListedCarrierRebaser.strip.Goals as goal

pub returns : goal.returns
returns c = λ D E F x y s t. ok_weaker c.strip_of.result (λ r w. step_listed_read E F r w) (c.strip_of.ensures.exact D E F x y (step_read_listed D E c.args.first.now s) (step_read_listed D F c.args.whole.now t))
