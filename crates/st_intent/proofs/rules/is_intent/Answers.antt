use Rattle.std.proofs.Common.{sym, subst}
use Rattle.st_marks.specs.Intent.{IsIntent}
use Rattle.st_intent.proofs.Tells.{Tells}
use Rattle.st_intent.proofs.Obeyed.{is_intent_tells}
use Rattle.st_intent.proofs.rules.is_intent.Goals as goal

pub returns : goal.returns
returns c = let N = c.args.intent.now in subst (λ b. Tells b (IsIntent N)) (sym c.all_hold.ensures) (is_intent_tells N)
