use Rattle.st_agree.specs.declared.agreement.FieldApart.{FieldApart}
use Rattle.st_laws.proofs.Refusals.{memory_on, ok_always}
use Rattle.st_marks.proofs.Turns.{extends_on}
use Rattle.st_marks.specs.Step.{IsStep}
use Rattle.st_marks.specs.declared.steps.Step.{Step}
use Rattle.st_ids.specs.declared.fault.Or.{Or}
use Rattle.st_marks.specs.Agree.{Agrees, ComposeClash}
use Rattle.st_laws.proofs.Behind.{behind_it, refused_before}
use Rattle.st_laws.specs.InOrder.{Composed}
use Rattle.st_laws.proofs.steps.last_together.Goals as goal

pub returns-in-Ok-clause-later : goal.returns-in-Ok-clause-later
returns-in-Ok-clause-later c = λ D E F G x y z p q r. c.in_turn-in-Ok.ensures.later D E G x (extends_on E F G y z) p (c.in-Ok.ensures.later E F G y z q r)

pub returns-in-Err-clause-later : goal.returns-in-Err-clause-later
returns-in-Err-clause-later c = λ D E F G x y z p q r. memory_on Step Step FieldApart (IsStep E G) (IsStep D G) c.in-Err.why (c.in-Err.ensures.later E F G y z q r)

pub returns-in-Ok-clause-last : goal.returns-in-Ok-clause-last
returns-in-Ok-clause-last c = λ v w. ok_always Step (Or FieldApart) (λ s. Agrees (ComposeClash c.args.b.now c.args.c.now)) c.in_turn-in-Ok.result (λ s. c.in-Ok.ensures.apart v w)

pub returns-in-Ok-clause-told : goal.returns-in-Ok-clause-told
returns-in-Ok-clause-told c = λ u v w. let h = c.in-Ok.ensures.told v w in
    behind_it Step Step (Composed c.args.b.now c.args.c.now) (λ bc. Composed c.args.a.now bc) c.in-Ok.together c.in_turn-in-Ok.result h (c.in_turn-in-Ok.ensures.told u h.obeys)

pub returns-in-Err-clause-told : goal.returns-in-Err-clause-told
returns-in-Err-clause-told c = λ u v w. refused_before Step Step (Composed c.args.b.now c.args.c.now) (λ bc. Composed c.args.a.now bc) c.in-Err.why (c.in-Err.ensures.told v w)
