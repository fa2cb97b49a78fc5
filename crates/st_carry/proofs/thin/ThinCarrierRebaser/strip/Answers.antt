use Rattle.std.proofs.Common.{false}
use Rattle.st_over.proofs.Shown.{shown-step}
use Rattle.st_carry.proofs.thin.ThinCarrierRebaser.strip.Goals as goal

pub returns : goal.returns
returns c = λ D E F x y s t. c.step_thinned.ensures E F y (c.in_ok-rest.ensures.shown D E F x y (shown-step false D E c.args.first.now s) (shown-step false D F c.args.whole.now t))
