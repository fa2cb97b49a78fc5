use Rattle.st_agree.specs.declared.agreement.FieldApart.{FieldApart}
use Rattle.st_laws.proofs.Refusals.{memory_on}
use Rattle.st_laws.proofs.StaysBack.{stays_back}
use Rattle.st_laws.specs.Unmade.{MakesNoneIn}
use Rattle.st_laws.specs.declared.sides.ChangeSides.{ChangeSides}
use Rattle.st_marks.proofs.Unique.{one_embedding}
use Rattle.st_marks.specs.Back.{retreat}
use Rattle.st_marks.specs.Embedding.{IsEmbedding}
use Rattle.st_marks.specs.declared.changes.Change.{Change}
use Rattle.std.proofs.Common.{◌≡◌}
use Rattle.st_laws.proofs.changes.beside_makings.Goals as goal

pub returns-in-Ok : goal.returns-in-Ok
returns-in-Ok c = λ D E N x f g short emb s l. (
  l,
  one_embedding (retreat D E) N c.args.left c.in-Ok.right l (c.in-Ok.ensures D E N x f g short emb s),
  (λ none. one_embedding (retreat D E) N c.args.left c.args.change.now l (stays_back D E N c.args.change.now x f g emb c.args.step.now s none)),
)

pub returns-in-Err : goal.returns-in-Err
returns-in-Err c = λ D E N x f g short emb s l. memory_on Change ChangeSides FieldApart (IsEmbedding (retreat D E) N) (λ t. IsEmbedding (retreat D E) N t.left × (t.left ≡ t.right) × (MakesNoneIn c.args.step.now c.args.change.now → t.left ≡ c.args.change.now)) c.in-Err.why (c.in-Err.ensures D E N x f g short emb s)
