use Rattle.st_reading.proofs.DocumentRowsCrossed.{crossed}
use Rattle.st_reading.proofs.laws.document_rows_are_crossed.Goals as goal

pub returns : goal.returns
returns c = λ l D E N C S new v u n xs ys x f g change step listed a b. crossed D E N x f g C S change step new listed l v u n xs ys a b
