use Rattle.std.proofs.Common.{take}
use Rattle.std.specs.List.{flat_map}
use Rattle.st_marks.specs.declared.marks.RowMarks.{RowMarks}
use Rattle.st_marks.specs.Row.{spread}
use Rattle.st_void.specs.inside.Puts.{IsLeastRing, put_by}
use Rattle.st_void.proofs.rings.least_in_rows.Given as goal

abbrev pub invariant-rows : goal.invariant-rows
invariant-rows l = IsLeastRing l.change (flat_map (λ (r : RowMarks). flat_map put_by (spread r.marks)) (take l.row-index l.row-items)) l.least
