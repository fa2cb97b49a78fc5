-- The tree that a move makes of a tree: what is moved is taken away, and then comes where the target is by then.
use Rattle.std.specs.Prelude.{ℕ, ◌-◌, ◌==◌, max, nat_le, ◌&&◌, Bool, true, false, List, [], ◌∷◌, take, drop, Option, Some, option_and_then, option_to_list, slice_get, if◌then◌else◌}
use Rattle.std.specs.Option.{option_map_or}
use Rattle.serde_json.specs.Data.{Data, null, boolean, number, string, array, object, no_members, member}
use Rattle.serde_json.specs.Find.{get}
use Rattle.st_ids.specs.declared.names.Key.{Key}
use Rattle.st_ids.specs.declared.names.Place.{Place}
use Rattle.st_schema_laws.specs.Edited.{at_path, is_row_key, data_items, same_key, with_items, with_key, without_items, without_key}

-- ## Looking into a tree

-- what stands under a node's type
abbrev pub inside : Data → Data
inside null = null
inside (boolean b) = null
inside (number x) = null
inside (string text) = null
inside (array ds) = null
inside (object no_members) = null
inside (object (member ty d no_members)) = d
inside (object (member ty d (member k e ms))) = null

-- the items of an array
abbrev pub items_in : Data → List Data
items_in null = []
items_in (boolean b) = []
items_in (number x) = []
items_in (string text) = []
items_in (array ds) = data_items ds
items_in (object ms) = []

-- the items of a node's row
abbrev pub row_items : Data → List Data
row_items d = items_in (inside d)

-- what a place leads to
abbrev pub child_in : Place → Data → Option Data
child_in p d = if is_row_key p.key then slice_get (row_items d) p.index else get p.key.0 (inside d)

-- what a path leads to
abbrev pub node_in : List Place → Data → Option Data
node_in [] d = Some d
node_in (p ∷ ps) d = option_and_then (node_in ps) (child_in p d)

-- ## What is taken

-- so many items of a row from an index on, or what stands under a key
abbrev pub taken_here : Key → ℕ → ℕ → Data → List Data
taken_here key index count d = if is_row_key key then take count (drop index (row_items d)) else option_to_list (get key.0 (inside d))

-- the trees that a move takes
abbrev pub taken_from : List Place → Key → ℕ → ℕ → Data → List Data
taken_from at key index count d = option_map_or (taken_here key index count) (node_in at d) []

-- without them
abbrev pub without_taken : Key → ℕ → ℕ → Data → Data
without_taken key index count d = if is_row_key key then without_items index count d else without_key key.0 d

-- ## Where they come

-- an index of a row, after so many items were taken from it, from an index on
abbrev pub index_after : ℕ → ℕ → ℕ → ℕ
index_after index count i = if nat_le i index then i else max index (i - count)

-- whether two places are one
abbrev pub same_place : Place → Place → Bool
same_place p q = same_key p.key.0 q.key.0 && (p.index == q.index)

-- a place in that row
abbrev pub place_after : ℕ → ℕ → Place → Place
place_after index count p = if is_row_key p.key then record { key = p.key; index = index_after index count p.index } else p

-- a path, after so many items were taken from the row to which another leads, from an index on
abbrev pub path_after : List Place → ℕ → ℕ → List Place → List Place
path_after at index count [] = []
path_after [] index count (p ∷ ps) = place_after index count p ∷ ps
path_after (q ∷ qs) index count (p ∷ ps) = p ∷ (if same_place q p then path_after qs index count ps else ps)

-- whether two paths are one
abbrev pub same_path : List Place → List Place → Bool
same_path [] [] = true
same_path [] (q ∷ qs) = false
same_path (p ∷ ps) [] = false
same_path (p ∷ ps) (q ∷ qs) = same_place p q && same_path ps qs

-- the target's path by then: nothing changes where the move takes from a field that isn't a row
abbrev pub target_path : List Place → Key → ℕ → ℕ → List Place → List Place
target_path at key index count to = if is_row_key key then path_after at index count to else to

-- the target's index by then: it counts the row before the move, which may be the row from which the items are taken
abbrev pub target_index : List Place → Key → ℕ → ℕ → List Place → ℕ → ℕ
target_index at key index count to to_index = if is_row_key key && same_path at to then index_after index count to_index else to_index

-- the first of some trees comes under a key
abbrev pub with_first_under : List ℕ → List Data → Data → Data
with_first_under k [] d = d
with_first_under k (new ∷ rest) d = with_key k new d

-- they come into a row, before the item of the index, or the one of them under a key, in the place of what is there
abbrev pub with_taken : Key → ℕ → List Data → Data → Data
with_taken key index new d = if is_row_key key then with_items index new d else with_first_under key.0 new d

-- the tree after a move
abbrev pub moved_in : List Place → Key → ℕ → ℕ → List Place → Key → ℕ → Data → Data
moved_in at key index count to to_key to_index d =
    at_path (target_path at key index count to) (with_taken to_key (target_index at key index count to to_index) (taken_from at key index count d))
    (at_path at (without_taken key index count) d)
