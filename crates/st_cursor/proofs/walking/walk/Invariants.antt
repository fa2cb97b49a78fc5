-- the rest of the path leads on from here
use Rattle.std.proofs.Common.{◌≡◌, drop}
use Rattle.st_edits.specs.Paths.{walk_from}
use Rattle.st_edits.specs.Resolve.{walk}
use Rattle.st_forest.specs.Stands.{StandsFor}
use Rattle.st_marks.specs.Document.{Document}
use Rattle.st_cursor.proofs.walking.walk.Given as goal

abbrev pub invariant-loop-i : goal.invariant-loop-i
invariant-loop-i l = (D : Document) → StandsFor l.forest D → walk_from D l.i l.node (drop l.i l.place-items) ≡ walk D l.place-items
