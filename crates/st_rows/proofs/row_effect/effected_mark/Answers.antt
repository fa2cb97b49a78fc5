use Rattle.std.proofs.Common.{refl}
use Rattle.st_rows.specs.Cells.{effected_mark}
use Rattle.st_rows.proofs.MarkByMark.{map-counted}
use Rattle.st_rows.proofs.row_effect.effected_mark.Goals as goal

pub returns-in-Skip : goal.returns-in-Skip
returns-in-Skip c = rw c.in-Skip.is (map-counted effected_mark c.in-Skip.field-0 refl)
