use Rattle.std.proofs.Common.{◌≡◌, ◌++◌, List, take, drop}
use Rattle.st_marks.specs.declared.intents.Owned.{Owned}
use Rattle.st_doc.specs.inside.Growing.{behind}
use Rattle.st_doc.proofs.rows.place_behind.Given as goal

-- the cells before are others
abbrev pub invariant-loop-i : goal.invariant-loop-i
invariant-loop-i l = (more : List Owned) → behind l.cell more l.row ≡ take l.i l.row ++ behind l.cell more (drop l.i l.row)
