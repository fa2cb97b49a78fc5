use Rattle.std.proofs.Common.{◌≡◌, take}
use Rattle.st_marks.specs.Row.{spread}
use Rattle.st_rows.specs.Cells.{void_row}
use Rattle.st_rows.specs.Changes.{placed_by}
use Rattle.st_rows.specs.Merged.{IsMerged}
use Rattle.st_rows.proofs.row_effect.voided_marks.Given as goal

abbrev pub invariant-loop-mark : goal.invariant-loop-mark
invariant-loop-mark l = record {
  merged : IsMerged l.out;
  cells : spread l.out ≡ void_row (placed_by l.in_new l.new) (spread (take l.mark-index l.change));
}
