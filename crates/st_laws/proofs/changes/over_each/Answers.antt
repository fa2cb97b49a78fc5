use Rattle.st_agree.specs.declared.agreement.FieldApart.{FieldApart}
use Rattle.st_laws.proofs.Refusals.{memory_on, ok_always}
use Rattle.st_marks.specs.Embedding.{IsEmbedding}
use Rattle.st_marks.specs.declared.changes.Change.{Change}
use Rattle.st_ids.specs.declared.fault.Or.{Or}
use Rattle.st_marks.specs.Agree.{Agrees, RebaseClash}
use Rattle.st_laws.proofs.Behind.{behind_it, refused_before}
use Rattle.st_laws.proofs.OneCall.{rebased_obeys}
use Rattle.st_laws.specs.InOrder.{Rebased}
use Rattle.st_laws.proofs.changes.over_each.Goals as goal

pub returns-in-Ok-clause-later : goal.returns-in-Ok-clause-later
returns-in-Ok-clause-later c = λ D E F N x y f g h middle last emb p q. c.over-in-Ok.ensures.later E F N y g h last (c.in-Ok.ensures.later D E N x f g middle emb p) q

pub returns-in-Err-clause-later : goal.returns-in-Err-clause-later
returns-in-Err-clause-later c = λ D E F N x y f g h middle last emb p q. memory_on Change Change FieldApart (IsEmbedding E N) (IsEmbedding F N) c.in-Err.why (c.in-Err.ensures.later D E N x f g middle emb p)

pub returns-in-Ok-clause-each : goal.returns-in-Ok-clause-each
returns-in-Ok-clause-each c = λ room v w. ok_always Change (Or FieldApart) (λ s. Agrees (RebaseClash c.args.change.now c.args.a.now)) c.over-in-Ok.result (λ s. c.in-Ok.ensures.apart room v w)

pub returns-in-Ok-clause-told : goal.returns-in-Ok-clause-told
returns-in-Ok-clause-told c = λ k u v. let h = c.in-Ok.ensures.told k u in
    behind_it Change Change (Rebased c.args.change.now c.args.a.now) (λ between. Rebased between c.args.b.now) c.in-Ok.between c.over-in-Ok.result h
    (c.over-in-Ok.ensures.told (rebased_obeys c.args.change.now c.args.a.now c.in-Ok.between k h) v)

pub returns-in-Err-clause-told : goal.returns-in-Err-clause-told
returns-in-Err-clause-told c = λ k u v. refused_before Change Change (Rebased c.args.change.now c.args.a.now) (λ between. Rebased between c.args.b.now) c.in-Err.why (c.in-Err.ensures.told k u)
