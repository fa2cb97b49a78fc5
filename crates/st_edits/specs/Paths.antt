-- Where a path leads in the tree that a document shows, and what stands in a row.
use Rattle.std.specs.Prelude.{ℕ, zero, suc, ◌+◌, ◌==◌, List, [], ◌∷◌, map, take, drop, length, slice_get, Option, Some, None, option_map, Result, Ok, Err, if◌then◌else◌}
use Rattle.st_ids.specs.declared.names.CellId.{CellId}
use Rattle.st_ids.specs.declared.names.FieldId.{FieldId}
use Rattle.st_ids.specs.declared.names.Key.{Key}
use Rattle.st_ids.specs.declared.names.NodeId.{NodeId}
use Rattle.st_ids.specs.declared.names.Place.{Place}
use Rattle.st_ids.specs.Or.{and_then}
use Rattle.st_tree.specs.declared.edit.EditFault.{EditFault}
use Rattle.st_tree.specs.declared.edit.EditFault.TheVariants.{NoNode}
use Rattle.st_marks.specs.declared.places.Slot.{Slot}
use Rattle.st_marks.specs.Document.{Document}
use Rattle.st_marks.specs.LiveTree.{live_slots}

-- a node's field under a key
abbrev pub field_at : NodeId → Key → FieldId
field_at n key = record { node = n; key = key }

-- ## Rows

-- how many items a row shows
abbrev pub row_length : Document → NodeId → ℕ
row_length D n = length (live_slots D n)

-- so many items of a row, from an index on
abbrev pub items_from : Document → NodeId → ℕ → ℕ → List NodeId
items_from D n index count = map (λ (s : Slot). s.node) (take count (drop index (live_slots D n)))

-- the cell of the item left of an index, or the row's start
abbrev pub left_of : Document → NodeId → ℕ → Option CellId
left_of D n zero = None
left_of D n (suc i) = option_map (λ (s : Slot). s.cell) (slice_get (live_slots D n) i)

-- ## Paths

-- the node that one place of a path leads to: the item of its index in the row, which has the empty key, or the one in
-- the register of its key, which has the index 0
abbrev pub child : Document → NodeId → Place → Option NodeId
child D n p =
    if length p.key.0 == 0 then option_map (λ (s : Slot). s.node) (slice_get (live_slots D n) p.index)
    else (if p.index == 0 then D.held (field_at n p.key) else None)

-- what is there, or a refusal
abbrev pub or_refuse : {A : Type 0} → Option A → EditFault → Result A EditFault
or_refuse None e = Err e
or_refuse (Some x) e = Ok x

-- the node that a path leads to from a node, or the number, counted from k, of the first place that leads to none
abbrev pub walk_from : Document → ℕ → NodeId → List Place → Result NodeId EditFault
walk_from D k n [] = Ok n
walk_from D k n (p ∷ ps) = and_then (or_refuse (child D n p) (NoNode k)) (λ m. walk_from D (k + 1) m ps)

-- the nodes on the way from a node, the last too
abbrev pub nodes_below_path : Document → NodeId → List Place → List NodeId
nodes_below_path D n [] = []
nodes_below_path D n (p ∷ ps) = elim (child D n p) [ None ↦ [] | Some m ↦ m ∷ nodes_below_path D m ps ]

-- the same with that node before them
abbrev pub nodes_on_path : Document → NodeId → List Place → List NodeId
nodes_on_path D n path = n ∷ nodes_below_path D n path
