use Rattle.st_marks.specs.Back.{retreat}
use Rattle.st_read_laws.proofs.Readings.{step_listed_read, step_read_listed}
use Rattle.st_carry.proofs.ThinValues.{ok_weaker}
use Rattle.st_carry.proofs.listed.ListedCarrierRebaser.invert.Goals as goal

pub returns : goal.returns
returns c = λ D E x s. ok_weaker c.invert_of.result (λ r w. step_listed_read E (retreat D E) r w) (c.invert_of.ensures.exact D E x (step_read_listed D E c.args.step.now s))
