use Rattle.st_lemmas.proofs.Bools.{true-false}
use Rattle.st_steps.proofs.ShortSteps.{step_short}
use Rattle.st_marks.specs.Normal.{IsNormalStep}
use Rattle.st_laws.proofs.OneCall.{composed_told}
use Rattle.st_laws.proofs.calls.in_turn.Goals as goal

pub returns-in_ok-copy-clause-later : goal.returns-in_ok-copy-clause-later
returns-in_ok-copy-clause-later c = λ D E F x y s t. absurd (true-false (c.has_short_rows.ensures.1 (step_short E F c.args.second.now y t)) c.if-has_short_rows.false)

pub returns-in_ok-copy-clause-apart : goal.returns-in_ok-copy-clause-apart
returns-in_ok-copy-clause-apart c = λ v w.
    let n : IsNormalStep c.args.second.now = c.steps_that_obey_are_normal.ensures c.args.second.now w in
    absurd (true-false (c.has_short_rows.ensures.1 (step_short n.0 n.1 c.args.second.now n.2 n.3)) c.if-has_short_rows.false)

pub returns-then-has_short_rows-clause-told : goal.returns-then-has_short_rows-clause-told
returns-then-has_short_rows-clause-told c = λ v w.
    composed_told c.args.first.now c.args.second.now (λ U. c.steps_in_turn_obey.ensures c.args.first.now c.args.second.now U v w) c.compose.result c.compose.ensures.composed (c.compose.ensures.apart v w)

pub returns-in_ok-copy-clause-told : goal.returns-in_ok-copy-clause-told
returns-in_ok-copy-clause-told c = λ v w.
    let n : IsNormalStep c.args.second.now = c.steps_that_obey_are_normal.ensures c.args.second.now w in
    absurd (true-false (c.has_short_rows.ensures.1 (step_short n.0 n.1 c.args.second.now n.2 n.3)) c.if-has_short_rows.false)
