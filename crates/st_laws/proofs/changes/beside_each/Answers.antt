use Rattle.st_agree.specs.declared.agreement.FieldApart.{FieldApart}
use Rattle.st_laws.proofs.Refusals.{memory_on}
use Rattle.st_laws.specs.declared.sides.ChangeSides.{ChangeSides}
use Rattle.st_marks.proofs.Unique.{one_embedding}
use Rattle.st_marks.specs.Embedding.{IsEmbedding}
use Rattle.st_marks.specs.declared.changes.Change.{Change}
use Rattle.std.proofs.Common.{◌≡◌}
use Rattle.std.proofs.Common.{refl}
use Rattle.st_laws.proofs.Behind.{refused_before}
use Rattle.st_laws.specs.InOrder.{Gives, OverEach}
use Rattle.st_laws.proofs.changes.beside_each.Goals as goal

pub returns-in-Ok-clause-sides : goal.returns-in-Ok-clause-sides
returns-in-Ok-clause-sides c = λ D E F N x y f g h middle last emb p q l. (l, one_embedding F N c.args.left c.in-Ok.right l (c.in-Ok.ensures.later D E F N x y f g h middle last emb p q))

pub returns-in-Err-clause-sides : goal.returns-in-Err-clause-sides
returns-in-Err-clause-sides c = λ D E F N x y f g h middle last emb p q l. memory_on Change ChangeSides FieldApart (IsEmbedding F N) (λ s. IsEmbedding F N s.left × (s.left ≡ s.right)) c.in-Err.why (c.in-Err.ensures.later D E F N x y f g h middle last emb p q)

pub returns-in-Ok-clause-each : goal.returns-in-Ok-clause-each
returns-in-Ok-clause-each c = λ room v w. c.in-Ok.ensures.each room v w

pub returns-in-Ok-clause-told : goal.returns-in-Ok-clause-told
returns-in-Ok-clause-told c = λ k u v. (c.in-Ok.right, c.in-Ok.ensures.told k u v, refl)

pub returns-in-Err-clause-told : goal.returns-in-Err-clause-told
returns-in-Err-clause-told c = λ k u v. refused_before Change ChangeSides (OverEach c.args.change.now c.args.a.now c.args.b.now) (λ right. Gives (record { left = c.args.left; right = right })) c.in-Err.why (c.in-Err.ensures.told k u v)
