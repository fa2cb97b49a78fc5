-- A row that grows by groups, one after the other.
use Rattle.std.specs.Prelude.{◌≡◌, ℕ, ◌≤◌, List, [], ◌∷◌, ◌++◌, take, drop, length, Option, Some, None, if◌then◌else◌}
use Rattle.st_ids.specs.Order.{same_cell, same_node}
use Rattle.st_ids.specs.declared.names.CellId.{CellId}
use Rattle.st_ids.specs.declared.names.NodeId.{NodeId}
use Rattle.st_marks.specs.declared.intents.Group.{Group}
use Rattle.st_marks.specs.declared.intents.Owned.{Owned}

-- a row with more cells directly behind one of its cells, or as it is where it doesn't have that cell
abbrev pub behind : CellId → List Owned → List Owned → List Owned
behind c more [] = []
behind c more (o ∷ os) = if same_cell o.cell c then o ∷ (more ++ os) else o ∷ behind c more os

-- a row with more cells where an anchor leads: at its start, or behind a cell
abbrev pub at_anchor : Option CellId → List Owned → List Owned → List Owned
at_anchor None more row = more ++ row
at_anchor (Some c) more row = behind c more row

-- a node's row with the cells of a group, if the group is the node's
abbrev pub with_group : Group → NodeId → List Owned → List Owned
with_group g n row = if same_node g.node n then at_anchor g.after g.cells row else row

-- a row with more cells at a place
abbrev pub at_place : ℕ → List Owned → List Owned → List Owned
at_place p more row = take p row ++ (more ++ drop p row)

-- an anchor leads to that place of a row, or to none
abbrev pub IsPlaceOf : Option CellId → List Owned → Option ℕ → Type 0
IsPlaceOf after row None = (more : List Owned) → at_anchor after more row ≡ row
IsPlaceOf after row (Some p) = (p ≤ length row) × ((more : List Owned) → at_anchor after more row ≡ at_place p more row)
