use Rattle.st_marks.proofs.NewRows.{rows_grow}
use Rattle.st_marks.proofs.laws.rows_keep_their_order.Goals as goal

pub returns : goal.returns
returns c = rows_grow
