use Rattle.st_agree.specs.declared.agreement.FieldApart.{FieldApart}
use Rattle.st_laws.proofs.Refusals.{first_agreed, first_same, memory_on}
use Rattle.st_laws.specs.declared.sides.ChangeSides.{ChangeSides}
use Rattle.st_marks.specs.Embedding.{IsEmbedding}
use Rattle.st_marks.specs.declared.changes.Change.{Change}
use Rattle.std.proofs.Common.{◌≡◌}
use Rattle.st_marks.specs.Agree.{ComposeClash}
use Rattle.st_laws.proofs.Behind.{behind_it, refused_before}
use Rattle.st_laws.specs.InOrder.{Gives, OverBoth, OverEach, Then}
use Rattle.st_laws.proofs.changes.over_parts.Goals as goal

pub returns-in-Ok-clause-sides : goal.returns-in-Ok-clause-sides
returns-in-Ok-clause-sides c = λ D E F N x y f g h middle last emb p q. c.beside_each.ensures.sides D E F N x y f g h middle last emb p q (c.in-Ok.ensures.later D E F N x y f h last emb p q)

pub returns-in-Err-clause-sides : goal.returns-in-Err-clause-sides
returns-in-Err-clause-sides c = λ D E F N x y f g h middle last emb p q. memory_on Change ChangeSides FieldApart (IsEmbedding F N) (λ s. IsEmbedding F N s.left × (s.left ≡ s.right)) c.in-Err.why (c.in-Err.ensures.later D E F N x y f h last emb p q)

pub returns-in-Ok-clause-first : goal.returns-in-Ok-clause-first
returns-in-Ok-clause-first c = λ v w. first_agreed ChangeSides (ComposeClash c.args.a.now c.args.b.now) c.beside_each.result (c.in-Ok.ensures.first v w)

pub returns-in-Err-clause-first : goal.returns-in-Err-clause-first
returns-in-Err-clause-first c = λ v w. first_same Change ChangeSides (ComposeClash c.args.a.now c.args.b.now) c.in-Err.why (c.in-Err.ensures.first v w)

pub returns-in-Ok-clause-told : goal.returns-in-Ok-clause-told
returns-in-Ok-clause-told c = λ k u v.
    behind_it Change ChangeSides (OverBoth c.args.change.now c.args.a.now c.args.b.now) (λ left. Then (OverEach c.args.change.now c.args.a.now c.args.b.now) (λ right. Gives (record { left = left; right = right })))
    c.in-Ok.left c.beside_each.result (c.in-Ok.ensures.told k u v) (c.beside_each.ensures.told k u v)

pub returns-in-Err-clause-told : goal.returns-in-Err-clause-told
returns-in-Err-clause-told c = λ k u v.
    refused_before Change ChangeSides (OverBoth c.args.change.now c.args.a.now c.args.b.now) (λ left. Then (OverEach c.args.change.now c.args.a.now c.args.b.now) (λ right. Gives (record { left = left; right = right })))
    c.in-Err.why (c.in-Err.ensures.told k u v)
