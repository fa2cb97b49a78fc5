use Rattle.std.proofs.Common.{◌++◌, List, take}
use Rattle.std.specs.List.{flat_map}
use Rattle.st_ids.specs.declared.names.NodeId.{NodeId}
use Rattle.st_marks.specs.Row.{spread}
use Rattle.st_void.specs.inside.Puts.{IsLeastRing, put_by}
use Rattle.st_void.proofs.rings.with_row.Given as goal

abbrev pub invariant-marks : goal.invariant-marks
invariant-marks l = (seen : List NodeId) → IsLeastRing l.change seen l.fn.least → IsLeastRing l.change (seen ++ flat_map put_by (spread (take l.mark-index l.mark-items))) l.so_far
