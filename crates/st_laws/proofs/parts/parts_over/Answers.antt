use Rattle.std.proofs.Common.{◌≡◌}
use Rattle.st_agree.specs.declared.agreement.FieldApart.{FieldApart}
use Rattle.st_laws.proofs.Refusals.{first_agreed, first_same, memory_on}
use Rattle.st_laws.specs.declared.sides.ChangeSides.{ChangeSides}
use Rattle.st_marks.specs.Embedding.{IsEmbedding}
use Rattle.st_marks.specs.declared.changes.Change.{Change}
use Rattle.st_marks.specs.Agree.{JoinClash}
use Rattle.st_laws.proofs.Behind.{behind_it, refused_before}
use Rattle.st_laws.specs.InOrder.{EachOver, Gives, Then, WholeOver}
use Rattle.st_laws.proofs.parts.parts_over.Goals as goal

pub returns-in-Ok-clause-left : goal.returns-in-Ok-clause-left
returns-in-Ok-clause-left c = λ D E N M J w no-ring. c.beside_parts.ensures.left E J (c.in-Ok.ensures.later D E N M J w no-ring)

pub returns-in-Ok-clause-both : goal.returns-in-Ok-clause-both
returns-in-Ok-clause-both c = λ D E N M J w sound sound-later. c.beside_parts.ensures.both D E N M J w sound sound-later (c.in-Ok.ensures.later D E N M J w sound.2)

pub returns-in-Err-clause-both : goal.returns-in-Err-clause-both
returns-in-Err-clause-both c = λ D E N M J w sound sound-later. memory_on Change ChangeSides FieldApart (IsEmbedding E J) (λ s. IsEmbedding E J s.left × (s.left ≡ s.right)) c.in-Err.why (c.in-Err.ensures.later D E N M J w sound.2)

pub returns-in-Ok-clause-first : goal.returns-in-Ok-clause-first
returns-in-Ok-clause-first c = λ v w. first_agreed ChangeSides (JoinClash c.args.first.now c.args.then.now) c.beside_parts.result (c.in-Ok.ensures.first v w)

pub returns-in-Err-clause-first : goal.returns-in-Err-clause-first
returns-in-Err-clause-first c = λ v w. first_same Change ChangeSides (JoinClash c.args.first.now c.args.then.now) c.in-Err.why (c.in-Err.ensures.first v w)

pub returns-in-Ok-clause-told : goal.returns-in-Ok-clause-told
returns-in-Ok-clause-told c = λ v w s.
    behind_it Change ChangeSides (WholeOver c.args.first.now c.args.then.now c.args.step.now) (λ left. Then (EachOver c.args.first.now c.args.then.now c.args.step.now) (λ right. Gives (record { left = left; right = right })))
    c.in-Ok.left c.beside_parts.result (c.in-Ok.ensures.told v w s) (c.beside_parts.ensures.told v w s)

pub returns-in-Err-clause-told : goal.returns-in-Err-clause-told
returns-in-Err-clause-told c = λ v w s.
    refused_before Change ChangeSides (WholeOver c.args.first.now c.args.then.now c.args.step.now) (λ left. Then (EachOver c.args.first.now c.args.then.now c.args.step.now) (λ right. Gives (record { left = left; right = right })))
    c.in-Err.why (c.in-Err.ensures.told v w s)
