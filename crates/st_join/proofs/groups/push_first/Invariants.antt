use Rattle.std.proofs.Common.{◌≡◌, ◌++◌, take}
use Rattle.std.proofs.Common.{map}
use Rattle.st_join.specs.inside.Places.{cells_at}
use Rattle.st_join.specs.inside.Lists.{with_cells_in}
use Rattle.st_join.proofs.groups.push_first.Given as goal

abbrev pub invariant-loop-group : goal.invariant-loop-group
invariant-loop-group l = l.list ≡ l.initial.list ++ map (with_cells_in (cells_at l.places)) (take l.group-index l.groups)
