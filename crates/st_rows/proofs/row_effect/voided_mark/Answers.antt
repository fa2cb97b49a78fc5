use Rattle.std.proofs.Common.{refl}
use Rattle.st_rows.specs.Cells.{voided_mark}
use Rattle.st_rows.specs.Changes.{placed_by}
use Rattle.st_rows.proofs.MarkByMark.{map-counted}
use Rattle.st_rows.proofs.row_effect.voided_mark.Goals as goal

pub returns-in-Skip : goal.returns-in-Skip
returns-in-Skip c = rw c.in-Skip.is (map-counted (voided_mark (placed_by c.args.in_new c.args.new.now)) c.in-Skip.field-0 refl)
