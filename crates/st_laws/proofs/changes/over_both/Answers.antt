use Rattle.st_agree.specs.declared.agreement.FieldApart.{FieldApart}
use Rattle.st_laws.proofs.Refusals.{first_agreed, first_refused, memory_on}
use Rattle.st_marks.proofs.Turns.{extends_on}
use Rattle.st_marks.specs.Embedding.{IsEmbedding}
use Rattle.st_marks.specs.Step.{IsStep}
use Rattle.st_marks.specs.declared.changes.Change.{Change}
use Rattle.st_marks.specs.declared.steps.Step.{Step}
use Rattle.st_marks.specs.Agree.{ComposeClash}
use Rattle.st_laws.proofs.Behind.{behind_it, refused_before}
use Rattle.st_laws.specs.InOrder.{Composed, Rebased}
use Rattle.st_laws.proofs.changes.over_both.Goals as goal

pub returns-in-Ok-clause-later : goal.returns-in-Ok-clause-later
returns-in-Ok-clause-later c = λ D E F N x y f h short emb p q. c.over.ensures.later D F N (extends_on D E F x y) f h short emb (c.in-Ok.ensures.later D E F x y p q)

pub returns-in-Err-clause-later : goal.returns-in-Err-clause-later
returns-in-Err-clause-later c = λ D E F N x y f h short emb p q. memory_on Step Change FieldApart (IsStep D F) (IsEmbedding F N) c.in-Err.why (c.in-Err.ensures.later D E F x y p q)

pub returns-in-Ok-clause-first : goal.returns-in-Ok-clause-first
returns-in-Ok-clause-first c = λ v w. first_agreed Change (ComposeClash c.args.a.now c.args.b.now) c.over.result (c.in-Ok.ensures.apart v w)

pub returns-in-Err-clause-first : goal.returns-in-Err-clause-first
returns-in-Err-clause-first c = λ v w. first_refused Step Change (ComposeClash c.args.a.now c.args.b.now) c.in-Err.why (c.in-Err.ensures.apart v w)

pub returns-in-Ok-clause-told : goal.returns-in-Ok-clause-told
returns-in-Ok-clause-told c = λ k u v. let h = c.in-Ok.ensures.told u v in
    behind_it Step Change (Composed c.args.a.now c.args.b.now) (λ ab. Rebased c.args.change.now ab) c.in-Ok.together c.over.result h (c.over.ensures.told k h.obeys)

pub returns-in-Err-clause-told : goal.returns-in-Err-clause-told
returns-in-Err-clause-told c = λ k u v. refused_before Step Change (Composed c.args.a.now c.args.b.now) (λ ab. Rebased c.args.change.now ab) c.in-Err.why (c.in-Err.ensures.told u v)
