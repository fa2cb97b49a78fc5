-- The lists of a join. What the parts say of a name is handed in as a function.
use Rattle.std.specs.Prelude.{Bool, not, ◌||◌, ◌&&◌, List, ◌∷◌, ◌++◌, Option, Some, None, map, is_some, option_map, if◌then◌else◌}
use Rattle.std.specs.List.{filter, filter_map, flat_map, list_any}
use Rattle.st_ids.specs.Order.{same_node}
use Rattle.st_ids.specs.declared.names.CellId.{CellId}
use Rattle.st_ids.specs.declared.names.FieldId.{FieldId}
use Rattle.st_ids.specs.declared.names.NodeId.{NodeId}
use Rattle.st_marks.specs.declared.intents.Group.{Group}
use Rattle.st_marks.specs.declared.intents.Intent.{Intent}
use Rattle.st_marks.specs.declared.intents.Owned.{Owned}
use Rattle.st_marks.specs.declared.intents.Put.{Put}
use Rattle.st_marks.specs.declared.intents.To.{To}
use Rattle.st_marks.specs.Intent.{clears, group_at, is_new, put_of, same_anchor}
use Rattle.st_marks.specs.Join.{put_unless_new}

-- ## Cells

-- cells, each with what stands after it in a node's row; `at` tells the cells that are made at a place
abbrev pub with_cells_after : (NodeId → Option CellId → List Owned) → NodeId → List Owned → List Owned
with_cells_after at n os = flat_map (λ (o : Owned). o ∷ at n (Some o.cell)) os

-- a group with what is made at its place, and after its cells
abbrev pub with_cells_in : (NodeId → Option CellId → List Owned) → Group → Group
with_cells_in at g = record g { cells = at g.node g.after ++ with_cells_after at g.node g.cells }

-- whether a place of a row is that of a group, or after one of its cells
abbrev pub takes_place : NodeId → Option CellId → Group → Bool
takes_place n a g = same_node g.node n && (same_anchor g.after a || list_any (λ (o : Owned). same_anchor (Some o.cell) a) g.cells)

-- whether an intent has a group at a place, or makes the cell before it
abbrev pub has_place : Intent → NodeId → Option CellId → Bool
has_place N n a = list_any (takes_place n a) N.groups

-- the first's groups with the second's cells in them, and then the other groups of the second
abbrev pub joined_groups : Intent → Intent → List Group
joined_groups N M = map (with_cells_in (group_at M)) N.groups ++ filter (λ (g : Group). not (has_place N g.node g.after)) M.groups

-- ## Puts

-- a put, unless it would lead a new node nowhere
abbrev pub kept_put : (NodeId → Bool) → Put → Option Put
kept_put new q = option_map (λ (to : To). record { node = q.node; to = to }) (put_unless_new (new q.node) q.to)

-- a put of the first part, where `cleared` tells the registers that the second clears
abbrev pub to_if_open : (FieldId → Bool) → To → To
to_if_open cleared To.Nowhere = To.Nowhere
to_if_open cleared (To.Cell c) = To.Cell c
to_if_open cleared (To.Register f) = if cleared f then To.Nowhere else To.Register f

-- the same, unless the second puts the node
abbrev pub left_put : (NodeId → Bool) → (NodeId → Bool) → (FieldId → Bool) → Put → Option Put
left_put new again cleared q = if again q.node then None else kept_put new (record { node = q.node; to = to_if_open cleared q.to })

-- the second's puts, and then those of the first that stay
abbrev pub joined_puts : Intent → Intent → List Put
joined_puts N M = filter_map (kept_put (is_new N)) M.put ++ filter_map (left_put (is_new N) (λ n. is_some (put_of M n)) (clears M)) N.put

-- ## Clears and needs

-- the first's clears, and then the second's others
abbrev pub joined_clears : Intent → Intent → List FieldId
joined_clears N M = N.clear ++ filter (λ f. not (clears N f)) M.clear

-- whether a node is needed
abbrev pub is_needed : Intent → NodeId → Bool
is_needed N n = list_any (λ m. same_node m n) N.need

-- the first's needs, and then those of the second's others that the first doesn't make
abbrev pub joined_needs : Intent → Intent → List NodeId
joined_needs N M = N.need ++ filter (λ n. not (is_new N n || is_needed N n)) M.need

-- ## Together

abbrev pub join_of : Intent → Intent → Intent
join_of N M = record {
  rev = N.rev;
  under = N.under;
  new = N.new ++ M.new;
  groups = joined_groups N M;
  clear = joined_clears N M;
  put = joined_puts N M;
  need = joined_needs N M;
  schema = None;
}
