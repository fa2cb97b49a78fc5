use Rattle.st_reading.proofs.DocumentRowsOver.{rows_over}
use Rattle.st_reading.proofs.laws.document_rows_go_over.Goals as goal

pub returns : goal.returns
returns c = λ l D E N C S m n xs ys x f g change step w a b. rows_over D E N x f g C S change step m w l n xs ys a b
