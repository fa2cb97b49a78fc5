-- The tree that an edit makes of a tree. A tree is the JSON that shows it: a leaf is its value, and another node an object
-- with one member, its type's name, which holds an array of trees for a node that has a row, and else an object from keys to
-- trees. An edit that finds nothing to change in a tree leaves it.
use Rattle.std.specs.Prelude.{◌≡◌, ℕ, zero, suc, ◌+◌, ◌==◌, Bool, List, [], ◌∷◌, ◌++◌, take, drop, length, if◌then◌else◌}
use Rattle.std.specs.Ordering.{nat_cmp, is_eq}
use Rattle.std.specs.Cmp.Lexicographic.{slice_cmp}
use Rattle.serde_json.specs.Data.{Data, null, boolean, number, string, array, object, Items, no_items, item, Members, no_members, member, put}
use Rattle.serde_json.specs.View.{items_of}
use Rattle.st_ids.specs.declared.names.Key.{Key}
use Rattle.st_ids.specs.declared.names.Place.{Place}
use Rattle.st_schema.specs.Schema.{SchemaView}
use Rattle.st_edits.specs.ArrayTypes.{is_array_type}

-- ## Which nodes have a row

-- a test of types tells those whose nodes have a row by the schema
abbrev pub TellsRows : (List ℕ → Bool) → SchemaView → Type 0
TellsRows is_array s = (ty : List ℕ) → is_array ty ≡ is_array_type s ty

-- ## Within one node

-- what stands under a node's type, changed; a leaf has nothing there
abbrev pub in_node : (Data → Data) → Data → Data
in_node f null = null
in_node f (boolean b) = boolean b
in_node f (number x) = number x
in_node f (string text) = string text
in_node f (array ds) = array ds
in_node f (object no_members) = object no_members
in_node f (object (member ty d no_members)) = object (member ty (f d) no_members)
in_node f (object (member ty d (member k e ms))) = object (member ty d (member k e ms))

-- the items of an array as a list
abbrev pub data_items : Items → List Data
data_items no_items = []
data_items (item d ds) = d ∷ data_items ds

-- the items of a row, changed
abbrev pub in_row : (List Data → List Data) → Data → Data
in_row f null = null
in_row f (boolean b) = boolean b
in_row f (number x) = number x
in_row f (string text) = string text
in_row f (array ds) = array (items_of (f (data_items ds)))
in_row f (object ms) = object ms

-- the fields that hold something, changed
abbrev pub in_fields : (Members → Members) → Data → Data
in_fields f null = null
in_fields f (boolean b) = boolean b
in_fields f (number x) = number x
in_fields f (string text) = string text
in_fields f (array ds) = array ds
in_fields f (object ms) = object (f ms)

-- ## Along a path

-- the item of an index, changed
abbrev pub at_index : ℕ → (Data → Data) → List Data → List Data
at_index i f [] = []
at_index zero f (d ∷ ds) = f d ∷ ds
at_index (suc i) f (d ∷ ds) = d ∷ at_index i f ds

-- whether two keys have the same bytes
abbrev pub same_key : List ℕ → List ℕ → Bool
same_key k l = is_eq (slice_cmp nat_cmp k l)

-- what stands under a key, changed
abbrev pub at_key : List ℕ → (Data → Data) → Members → Members
at_key k f no_members = no_members
at_key k f (member l d ms) = member l (if same_key k l then f d else d) (at_key k f ms)

-- whether a key is that of a row, which is empty
abbrev pub is_row_key : Key → Bool
is_row_key key = length key.0 == 0

-- what a place leads to, changed: the item of its index in the row, or what stands under its key
abbrev pub at_place : Place → (Data → Data) → Data → Data
at_place p f d = in_node (if is_row_key p.key then in_row (at_index p.index f) else in_fields (at_key p.key.0 f)) d

-- what a path leads to, changed
abbrev pub at_path : List Place → (Data → Data) → Data → Data
at_path [] f d = f d
at_path (p ∷ ps) f d = at_place p (at_path ps f) d

-- ## Edits

-- so many items of a row, from an index on, are taken away
abbrev pub without_items : ℕ → ℕ → Data → Data
without_items index count d = in_node (in_row (λ ds. take index ds ++ drop (index + count) ds)) d

-- new items come into a row, before the item of the index
abbrev pub with_items : ℕ → List Data → Data → Data
with_items index new d = in_node (in_row (λ ds. take index ds ++ (new ++ drop index ds))) d

-- members without those of a key
abbrev pub other_members : List ℕ → Members → Members
other_members k no_members = no_members
other_members k (member l d ms) = if same_key k l then other_members k ms else member l d (other_members k ms)

-- what stands under a key is taken away
abbrev pub without_key : List ℕ → Data → Data
without_key k d = in_node (in_fields (other_members k)) d

-- a tree comes under a key, in the place of what is there, the keys being in the order of their bytes
abbrev pub with_key : List ℕ → Data → Data → Data
with_key k new d = in_node (in_fields (put k new)) d
