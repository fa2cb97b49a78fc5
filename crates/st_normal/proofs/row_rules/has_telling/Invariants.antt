use Rattle.std.proofs.Common.{◌≡◌, drop}
use Rattle.std.specs.List.{list_any}
use Rattle.st_marks.specs.Embedding.{tells}
use Rattle.st_marks.specs.Row.{spread}
use Rattle.st_normal.proofs.row_rules.has_telling.Given as goal

abbrev pub invariant-loop-mark : goal.invariant-loop-mark
invariant-loop-mark l = list_any tells (spread (drop l.mark-index l.marks)) ≡ list_any tells (spread l.marks)
