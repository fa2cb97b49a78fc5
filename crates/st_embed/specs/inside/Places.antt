-- Maps by the places of groups: a node's row, and a cell of it or its start.
use Rattle.std.specs.Prelude.{Bool, ◌&&◌, List, [], Option, unwrap_or}
use Rattle.std.specs.BTreeMap.{BTreeMap, get}
use Rattle.std.specs.Option.{option_cmp}
use Rattle.std.specs.Ordering.{ordering_then}
use Rattle.std.specs.declared.cmp.Ordering.{Ordering}
use Rattle.st_ids.specs.Order.{node_cmp, cell_cmp, same_node}
use Rattle.st_ids.specs.declared.names.CellId.{CellId}
use Rattle.st_ids.specs.declared.names.NodeId.{NodeId}
use Rattle.st_marks.specs.declared.intents.Group.{Group}
use Rattle.st_marks.specs.declared.intents.Owned.{Owned}
use Rattle.st_marks.specs.Intent.{same_anchor}

-- the order of places: by node, and then the row's start before its cells
abbrev pub place_cmp : NodeId × Option CellId → NodeId × Option CellId → Ordering
place_cmp p q = ordering_then (node_cmp p.0 q.0) (option_cmp cell_cmp p.1 q.1)

-- the cells that a map has at a place
abbrev pub cells_at : BTreeMap (NodeId × Option CellId) (List Owned) → NodeId → Option CellId → List Owned
cells_at places n a = unwrap_or (get place_cmp places (n, a)) []

-- whether a group stands at a place
abbrev pub is_at_place : NodeId → Option CellId → Group → Bool
is_at_place n a g = same_node g.node n && same_anchor g.after a
