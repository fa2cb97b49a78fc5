use Rattle.std.proofs.Common.{◌≡◌}
use Rattle.st_agree.specs.declared.agreement.FieldApart.{FieldApart}
use Rattle.st_laws.proofs.Refusals.{least_same, memory_on, refused_same}
use Rattle.st_laws.specs.declared.sides.ChangeSides.{ChangeSides}
use Rattle.st_marks.proofs.Turns.{extends_itself}
use Rattle.st_marks.proofs.Unique.{one_embedding}
use Rattle.st_marks.specs.Agree.{RebaseClash}
use Rattle.st_marks.specs.Embedding.{IsEmbedding}
use Rattle.st_marks.specs.declared.changes.Change.{Change}
use Rattle.st_laws.proofs.changes.over_none.Goals as goal

pub returns-in_ok-beside_itself-in-Ok-clause-stays : goal.returns-in_ok-beside_itself-in-Ok-clause-stays
returns-in_ok-beside_itself-in-Ok-clause-stays c = λ D N x f short emb s.
    c.in_ok-beside_itself-in-Ok.ensures (one_embedding D N c.in-Ok.left c.args.change.now (c.in-Ok.ensures.later D D N (extends_itself D x) f f short emb s) emb)

pub returns-in-Err-clause-stays : goal.returns-in-Err-clause-stays
returns-in-Err-clause-stays c = λ D N x f short emb s. memory_on Change ChangeSides FieldApart (IsEmbedding D N) (λ s. (s.left ≡ c.args.change.now) × (s.left ≡ s.right)) c.in-Err.why (c.in-Err.ensures.later D D N (extends_itself D x) f f short emb s)

pub returns-in-Err-clause-named : goal.returns-in-Err-clause-named
returns-in-Err-clause-named c = refused_same Change ChangeSides FieldApart (λ a. RebaseClash c.args.change.now c.args.step.now a.field) c.in-Err.why c.in-Err.ensures.named

pub returns-in-Err-clause-apart : goal.returns-in-Err-clause-apart
returns-in-Err-clause-apart c = λ room change step. least_same Change ChangeSides (RebaseClash c.args.change.now c.args.step.now) c.in-Err.why (c.in-Err.ensures.apart room change step)
