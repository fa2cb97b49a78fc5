use Rattle.st_agree.specs.declared.agreement.FieldApart.{FieldApart}
use Rattle.st_laws.proofs.Refusals.{first_agreed, first_refused, memory_on}
use Rattle.st_marks.proofs.Turns.{extends_on}
use Rattle.st_marks.specs.Step.{IsStep}
use Rattle.st_marks.specs.declared.steps.Step.{Step}
use Rattle.st_marks.specs.Agree.{ComposeClash}
use Rattle.st_laws.proofs.Behind.{behind_it, refused_before}
use Rattle.st_laws.specs.InOrder.{Composed}
use Rattle.st_laws.proofs.steps.first_together.Goals as goal

pub returns-in-Ok-clause-later : goal.returns-in-Ok-clause-later
returns-in-Ok-clause-later c = λ D E F G x y z p q r. c.in_turn-in-Ok.ensures.later D F G (extends_on D E F x y) z (c.in-Ok.ensures.later D E F x y p q) r

pub returns-in-Err-clause-later : goal.returns-in-Err-clause-later
returns-in-Err-clause-later c = λ D E F G x y z p q r. memory_on Step Step FieldApart (IsStep D F) (IsStep D G) c.in-Err.why (c.in-Err.ensures.later D E F x y p q)

pub returns-in-Ok-clause-first : goal.returns-in-Ok-clause-first
returns-in-Ok-clause-first c = λ v w. first_agreed Step (ComposeClash c.args.a.now c.args.b.now) c.in_turn-in-Ok.result (c.in-Ok.ensures.apart v w)

pub returns-in-Err-clause-first : goal.returns-in-Err-clause-first
returns-in-Err-clause-first c = λ v w. first_refused Step Step (ComposeClash c.args.a.now c.args.b.now) c.in-Err.why (c.in-Err.ensures.apart v w)

pub returns-in-Ok-clause-told : goal.returns-in-Ok-clause-told
returns-in-Ok-clause-told c = λ u v w. let h = c.in-Ok.ensures.told u v in
    behind_it Step Step (Composed c.args.a.now c.args.b.now) (λ ab. Composed ab c.args.c.now) c.in-Ok.together c.in_turn-in-Ok.result h (c.in_turn-in-Ok.ensures.told h.obeys w)

pub returns-in-Err-clause-told : goal.returns-in-Err-clause-told
returns-in-Err-clause-told c = λ u v w. refused_before Step Step (Composed c.args.a.now c.args.b.now) (λ ab. Composed ab c.args.c.now) c.in-Err.why (c.in-Err.ensures.told u v)
