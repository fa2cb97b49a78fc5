use Rattle.st_agree_laws.proofs.CellsOnce.{agree_over}
use Rattle.st_agree_laws.proofs.laws.changes_agree_with_steps.Goals as goal

pub returns : goal.returns
returns c = λ D E N C S x f g emb step. agree_over D E N C S x f g emb step
