use Rattle.std.proofs.Common.{◌≡◌, Option, take}
use Rattle.std.specs.BTreeSet.{contains}
use Rattle.std.specs.List.{list_any}
use Rattle.st_ids.specs.declared.names.CellId.{CellId}
use Rattle.st_ids.specs.declared.names.NodeId.{NodeId}
use Rattle.st_join.specs.inside.Lists.{takes_place}
use Rattle.st_join.specs.inside.Places.{place_cmp}
use Rattle.st_join.proofs.groups.taken_places.Given as goal

abbrev pub invariant-loop-group : goal.invariant-loop-group
invariant-loop-group l = (n : NodeId) (a : Option CellId) → contains place_cmp l.taken (n, a) ≡ list_any (takes_place n a) (take l.group-index l.group-items)
