use Rattle.std.proofs.Common.{false}
use Rattle.st_over.proofs.Shown.{shown-step}
use Rattle.st_carry.proofs.ShortBefore.{short_after}
use Rattle.st_carry.proofs.thin.ThinCarrierRebaser.revert.Goals as goal

pub returns : goal.returns
returns c = λ D E B x b has s. c.change_thinned.ensures E B (short_after E B b.nothing_new.1 x.after.short) (c.in_ok-back.ensures.shown D E B x b has (shown-step false D E c.args.step.now s))
