use Rattle.std.proofs.Common.{◌++◌, take}
use Rattle.std.specs.List.{flat_map}
use Rattle.st_marks.specs.declared.marks.RowMarks.{RowMarks}
use Rattle.st_marks.specs.Row.{spread}
use Rattle.st_void.specs.inside.Puts.{IsLeastRing, put_by, put_into}
use Rattle.st_void.proofs.rings.least_ring.Given as goal

abbrev pub invariant-regs : goal.invariant-regs
invariant-regs l = IsLeastRing l.change (flat_map (λ (r : RowMarks). flat_map put_by (spread r.marks)) l.change.rows ++ flat_map put_into (take l.mark-index l.mark-items)) l.least
