use Rattle.std.proofs.Common.{◌≡◌, ◌&&◌, ◌||◌, Some, Option, take}
use Rattle.std.specs.BTreeSet.{contains}
use Rattle.std.specs.List.{list_any}
use Rattle.st_ids.specs.Order.{same_node}
use Rattle.st_ids.specs.declared.names.CellId.{CellId}
use Rattle.st_ids.specs.declared.names.NodeId.{NodeId}
use Rattle.st_marks.specs.Intent.{same_anchor}
use Rattle.st_join.specs.inside.Places.{place_cmp}
use Rattle.st_join.proofs.groups.take_after.Given as goal

abbrev pub invariant-loop-owned : goal.invariant-loop-owned
invariant-loop-owned l = (n : NodeId) (a : Option CellId) → contains place_cmp l.taken (n, a)
    ≡ (contains place_cmp l.initial.taken (n, a) || list_any (λ o. same_node l.node n && same_anchor (Some o.cell) a) (take l.owned-index l.cells))
