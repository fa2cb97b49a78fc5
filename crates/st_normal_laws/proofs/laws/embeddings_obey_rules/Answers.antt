use Rattle.st_puts.proofs.OverDocuments.{embedding_over}
use Rattle.st_normal_laws.proofs.SchemaRules.{change_obeys}
use Rattle.st_normal_laws.proofs.laws.embeddings_obey_rules.Goals as goal

pub returns : goal.returns
returns c = record {
  over = λ D N C x f e. embedding_over D N C x f e;
  rules = λ D N C x f s e. change_obeys D N C x f s e;
}
