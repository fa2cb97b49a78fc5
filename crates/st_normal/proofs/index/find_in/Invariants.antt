use Rattle.std.proofs.Common.{◌≡◌, length}
use Rattle.std.specs.List.{find}
use Rattle.st_normal.specs.inside.Naming.{is_named}
use Rattle.st_normal.proofs.index.find_in.Given as goal

abbrev pub invariant-loop-item : goal.invariant-loop-item
invariant-loop-item g l = find (is_named g.I.Named.name l.name) (g.W.Walk.left l.walk) ≡ find (is_named g.I.Named.name l.name) (g.W.Walk.left l.initial.walk)

abbrev pub decreases-loop-item : goal.decreases-loop-item
decreases-loop-item g l = length (g.W.Walk.left l.walk)
