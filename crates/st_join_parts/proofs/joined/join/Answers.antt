use Rattle.st_agree.specs.declared.agreement.FieldApart.{FieldApart}
use Rattle.st_join_parts.proofs.Refusals.{refused_none}
use Rattle.st_marks.specs.Embedding.{IsEmbedding}
use Rattle.st_marks.specs.declared.changes.Change.{Change}
use Rattle.st_join_parts.proofs.joined.join.Goals as goal

pub returns-in-Err-clause-joined : goal.returns-in-Err-clause-joined
returns-in-Err-clause-joined c = λ D N M J x parts sound both short last first next.
    refused_none (Unit {0}) Change FieldApart (IsEmbedding D J) c.in-Err.why (c.in-Err.ensures.over D N M x parts sound short first next)
