use Rattle.st_mention_laws.proofs.ThinForms.{shows_itself, shows_thin}
use Rattle.st_mention_laws.proofs.laws.embeddings_are_shown.Goals as goal

pub returns : goal.returns
returns c = λ D N C emb. (shows_itself D N C emb, shows_thin D N C emb)
