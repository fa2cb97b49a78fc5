use Rattle.std.proofs.Common.{◌≡◌, ◌++◌, take}
use Rattle.st_join.specs.inside.Lists.{with_cells_after}
use Rattle.st_join.specs.inside.Places.{cells_at}
use Rattle.st_join.proofs.groups.push_cells.Given as goal

abbrev pub invariant-loop-owned : goal.invariant-loop-owned
invariant-loop-owned l = l.cells ≡ l.initial.cells ++ with_cells_after (cells_at l.places) l.group.node (take l.owned-index l.owned-items)
