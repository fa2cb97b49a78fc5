use Rattle.std.proofs.Common.{◌∙◌, sym}
use Rattle.st_marks.specs.Intent.{put_of}
use Rattle.st_reading.proofs.DocumentRowsOver.{rows_over}
use Rattle.st_passing.proofs.RowsPassed.{row_passes}
use Rattle.st_passing.proofs.laws.document_rows_pass.Goals as goal

pub returns : goal.returns
returns c = λ l D E N C S m k n xs ys x f g change step w a b h o. sym (row_passes l (put_of N) m k xs ys h o) ∙ rows_over D E N x f g C S change step m w l n xs ys a b
