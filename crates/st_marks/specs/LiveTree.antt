-- The live tree, as the JSON that shows it: from a node downwards, a row's full cells in order, and a register's occupant.
use Rattle.std.specs.Prelude.{◌≡◌, ℕ, Bool, true, false, List, [], ◌∷◌, ◌++◌, Option, Some, None, is_some, filter, if◌then◌else◌}
use Rattle.std.specs.Ordering.{nat_cmp}
use Rattle.std.specs.Cmp.Lexicographic.{slice_cmp}
use Rattle.serde_json.specs.Data.{Data, array, object, Items, no_items, item, Members, no_members, member}
use Rattle.serde_json.specs.Written.{compact_text}
use Rattle.st_ids.specs.Listing.{IsListing}
use Rattle.st_ids.specs.declared.names.FieldId.{FieldId}
use Rattle.st_ids.specs.declared.names.Leaf.{Leaf}
use Rattle.st_ids.specs.declared.names.NodeId.{NodeId}
use Rattle.st_marks.specs.declared.places.Slot.{Slot}
use Rattle.st_marks.specs.Document.{Document, content}
use Rattle.st_ids.specs.Root.{root}
use Rattle.st_ids.specs.LeafText.{leaf_data}

-- the full cells of a node's row, in order: what the row shows
abbrev pub live_slots : Document → NodeId → List Slot
live_slots D n = filter (λ (s : Slot). s.full) (content D n)

-- the owners of full cells, in order
abbrev pub owners_shown : List Slot → List NodeId
owners_shown [] = []
owners_shown (s ∷ cells) = (if s.full then s.node ∷ [] else []) ++ owners_shown cells

-- the field of a node under a key
abbrev pub register : NodeId → List ℕ → FieldId
register n key = record { node = n; key = record { 0 = key } }

-- the key of a register that holds a node
abbrev pub key_at : Document → NodeId → List ℕ → Option (List ℕ)
key_at D n key = if is_some (D.held (register n key)) then Some key else None

-- an object with the one member
abbrev pub one_member : List ℕ → Data → Data
one_member key data_of = object (member key data_of no_members)

mutual
  -- what a node shows, where `is_array` tells the types whose nodes have a row from those that have registers
  pub data Shows (is_array : List ℕ → Bool) (D : Document) : NodeId → Data → Type 0 where
    shows_leaf : (n : NodeId) (ty : List ℕ) (value : Leaf) → D.nodes n ≡ Some (record { ty = ty; leaf = Some value }) → Shows is_array D n (leaf_data value)
    shows_row : (n : NodeId) (ty : List ℕ) (items : Items) → D.nodes n ≡ Some (record { ty = ty; leaf = None }) → is_array ty ≡ true
        → ShowsItems is_array D (owners_shown (content D n)) items → Shows is_array D n (one_member ty (array items))
    -- `keys` are those of the registers that hold a node, in the order of their bytes
    shows_registers : (n : NodeId) (ty : List ℕ) (keys : List (List ℕ)) (members : Members) → D.nodes n ≡ Some (record { ty = ty; leaf = None }) → is_array ty ≡ false
        → IsListing (slice_cmp nat_cmp) (λ (k : List ℕ). k) keys (key_at D n)
        → ShowsMembers is_array D n keys members → Shows is_array D n (one_member ty (object members))

  -- nodes, each with what it shows
  pub data ShowsItems (is_array : List ℕ → Bool) (D : Document) : List NodeId → Items → Type 0 where
    no_more_items : ShowsItems is_array D [] no_items
    next_item : (n : NodeId) (d : Data) (ns : List NodeId) (ds : Items) → Shows is_array D n d → ShowsItems is_array D ns ds → ShowsItems is_array D (n ∷ ns) (item d ds)

  -- the registers of a node, each with what its occupant shows
  pub data ShowsMembers (is_array : List ℕ → Bool) (D : Document) : NodeId → List (List ℕ) → Members → Type 0 where
    no_more_members : (n : NodeId) → ShowsMembers is_array D n [] no_members
    next_member : (n m : NodeId) (k : List ℕ) (d : Data) (ks : List (List ℕ)) (ms : Members) → D.held (register n k) ≡ Some m → Shows is_array D m d → ShowsMembers is_array D n ks ms
        → ShowsMembers is_array D n (k ∷ ks) (member k d ms)

-- the text of the live tree: the JSON of the root, without blanks
abbrev pub IsTreeText : (List ℕ → Bool) → Document → List ℕ → Type 0
IsTreeText is_array D text = (d : Data) × Shows is_array D root d × (text ≡ compact_text d)
