use Rattle.st_marks.specs.Verdict.{carried_document}
use Rattle.st_read_laws.proofs.Readings.{read_listed, step_listed_read}
use Rattle.st_carry.proofs.ThinValues.{ok_weaker}
use Rattle.st_carry.proofs.listed.ListedCarrierRebaser.effect.Goals as goal

pub returns : goal.returns
returns c = λ D N s f short x. ok_weaker c.effect_of.result (λ r w. (w.0, step_listed_read D (carried_document r.verdict D N) r.step w.1)) (c.effect_of.ensures.exact D N s f short (read_listed D N c.args.change.now x))
