use Rattle.std.proofs.Common.{false}
use Rattle.st_over.proofs.Shown.{shown}
use Rattle.st_marks.specs.Verdict.{carried_document}
use Rattle.st_marks.proofs.OneVerdict.{carried_extends}
use Rattle.st_carry.proofs.thin.ThinCarrierRebaser.effect.Goals as goal

pub returns : goal.returns
returns c = λ D N s f short x. let w = c.in_ok-done.ensures.shown D N s f short (shown false D N c.args.change.now x) in (w.0, c.in_ok-step.ensures D (carried_document c.in_ok-done.done.verdict D N) (carried_extends D N c.in_ok-done.done.verdict s f short w.0) w.1)
