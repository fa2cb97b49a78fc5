use Rattle.st_read_laws.proofs.Readings.{listed_read, step_read_listed}
use Rattle.st_carry.proofs.ThinValues.{ok_weaker}
use Rattle.st_carry.proofs.listed.ListedCarrierRebaser.revert.Goals as goal

pub returns : goal.returns
returns c = λ D E B x b has s. ok_weaker c.revert_of.result (λ r w. listed_read E B r w) (c.revert_of.ensures.exact D E B x b has (step_read_listed D E c.args.step.now s))
