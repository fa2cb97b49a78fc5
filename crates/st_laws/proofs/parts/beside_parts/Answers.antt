use Rattle.std.proofs.Common.{◌≡◌}
use Rattle.st_agree.specs.declared.agreement.FieldApart.{FieldApart}
use Rattle.st_laws.proofs.Refusals.{memory_on}
use Rattle.st_laws.specs.declared.sides.ChangeSides.{ChangeSides}
use Rattle.st_marks.proofs.Unique.{one_embedding}
use Rattle.st_marks.specs.Embedding.{IsEmbedding}
use Rattle.st_marks.specs.declared.changes.Change.{Change}
use Rattle.std.proofs.Common.{refl}
use Rattle.st_laws.proofs.Behind.{refused_before}
use Rattle.st_laws.specs.InOrder.{EachOver, Gives}
use Rattle.st_laws.proofs.parts.beside_parts.Goals as goal

pub returns-in-Ok-clause-both : goal.returns-in-Ok-clause-both
returns-in-Ok-clause-both c = λ D E N M J w sound sound-later l. (l, one_embedding E J c.args.left c.in-Ok.right l (c.in-Ok.ensures.later D E N M J w sound sound-later))

pub returns-in-Err-clause-both : goal.returns-in-Err-clause-both
returns-in-Err-clause-both c = λ D E N M J w sound sound-later l. memory_on Change ChangeSides FieldApart (IsEmbedding E J) (λ s. IsEmbedding E J s.left × (s.left ≡ s.right)) c.in-Err.why (c.in-Err.ensures.later D E N M J w sound sound-later)

pub returns-in-Ok-clause-each : goal.returns-in-Ok-clause-each
returns-in-Ok-clause-each c = λ room v w. c.in-Ok.ensures.each room v w

pub returns-in-Ok-clause-told : goal.returns-in-Ok-clause-told
returns-in-Ok-clause-told c = λ v w s. (c.in-Ok.right, c.in-Ok.ensures.told v w s, refl)

pub returns-in-Err-clause-told : goal.returns-in-Err-clause-told
returns-in-Err-clause-told c = λ v w s. refused_before Change ChangeSides (EachOver c.args.first.now c.args.then.now c.args.step.now) (λ right. Gives (record { left = c.args.left; right = right })) c.in-Err.why (c.in-Err.ensures.told v w s)
