-- the hops so far have the places so far, and lead to the node from which the rest of the path leads on
use Rattle.std.proofs.Common.{◌≡◌, map, take}
use Rattle.st_forest.specs.Stands.{StandsFor}
use Rattle.st_marks.specs.Document.{Document}
use Rattle.st_cursor.specs.declared.hops.Hop.{Hop}
use Rattle.st_cursor.proofs.Ways.{OnTheWay}
use Rattle.st_cursor.proofs.walking.go_down.Given as goal

abbrev pub invariant-loop-i : goal.invariant-loop-i
invariant-loop-i l = (map (λ (h : Hop). h.place) l.hops ≡ take l.i l.place-items) × ((D : Document) → StandsFor l.forest D → OnTheWay D l.place-items l.i l.node l.hops)
