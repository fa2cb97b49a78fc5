use Rattle.std.proofs.Common.{false}
use Rattle.st_over.proofs.Shown.{shown-step}
use Rattle.st_marks.specs.Back.{retreat}
use Rattle.st_marks.proofs.Retreat.{retreat_extends}
use Rattle.st_carry.proofs.thin.ThinCarrierRebaser.invert.Goals as goal

pub returns : goal.returns
returns c = λ D E x s. c.step_thinned.ensures E (retreat D E) (retreat_extends D E x) (c.in_ok-back.ensures.shown D E x (shown-step false D E c.args.step.now s))
