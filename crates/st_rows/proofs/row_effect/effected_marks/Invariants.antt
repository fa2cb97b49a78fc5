use Rattle.std.proofs.Common.{◌≡◌, take}
use Rattle.st_marks.specs.Row.{spread}
use Rattle.st_rows.specs.Cells.{effect_row}
use Rattle.st_rows.specs.Merged.{IsMerged}
use Rattle.st_rows.proofs.row_effect.effected_marks.Given as goal

abbrev pub invariant-loop-mark : goal.invariant-loop-mark
invariant-loop-mark l = record {
  merged : IsMerged l.out;
  cells : spread l.out ≡ effect_row (spread (take l.mark-index l.change));
}
