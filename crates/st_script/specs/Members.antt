-- The members of a step.
use Rattle.std.specs.Prelude.{ℕ, ◌^◌, nat_le, nat_lt, List, [], ◌∷◌, length, ◌&&◌, is_ok, Option, Some, None, option_and_then, option_map, codes, if◌then◌else◌}
use Rattle.serde_json.specs.Data.{Data, Items, no_items, item}
use Rattle.serde_json.specs.Find.{get, as_str, as_array, as_number, as_u64}
use Rattle.st_idcodec.specs.Uuids.{uuid_read}
use Rattle.st_ids.specs.declared.names.Key.{Key}
use Rattle.st_ids.specs.declared.names.Place.{Place}
use Rattle.st_ids.specs.declared.names.Rev.{Rev}
use Rattle.st_ids.specs.Names.{read_rev}
use Rattle.st_tree.specs.Node.{Node, nodes_of}
use Rattle.st_tree.specs.Size.{check_items}
use Rattle.st_schema.specs.Schema.{SchemaView, is_sound}
use Rattle.st_schema.specs.Reading.{schema_of}
use Rattle.st_schema.specs.TreeText.{tree_of}
use Rattle.st_ids.specs.Numeral.{small}

-- a client's name has 1 to 64 bytes
abbrev pub as_client_name : List ℕ → Option (List ℕ)
as_client_name t = if nat_le 1 (length t) && nat_le (length t) 64 then Some t else None

abbrev pub client_in : Data → Option (List ℕ)
client_in d = option_and_then as_client_name (option_and_then as_str (get (codes "client") d))

abbrev pub as_small : Data → Option ℕ
as_small d = option_and_then small (option_and_then as_u64 (as_number d))

-- the number of a member that has to be there
abbrev pub number_in : List ℕ → Data → Option ℕ
number_in name d = option_and_then as_small (get name d)

-- the number of a member, or the one that is meant where nothing is said
abbrev pub number_or : ℕ → Option Data → Option ℕ
number_or n None = Some n
number_or n (Some d) = as_small d

abbrev pub at_least_one : ℕ → Option ℕ
at_least_one n = if nat_le 1 n then Some n else None

abbrev pub one_or_more : Option Data → Option ℕ
one_or_more None = Some 1
one_or_more (Some d) = option_and_then at_least_one (as_small d)

-- how many items, which is 1 where nothing is said
abbrev pub count_of : Data → Option ℕ
count_of d = one_or_more (get (codes "count") d)

-- a key has at most 64 bytes
abbrev pub key_within : List ℕ → Option Key
key_within t = if nat_le (length t) 64 then Some (record { 0 = t }) else None

abbrev pub key_of : Data → Option Key
key_of d = option_and_then key_within (as_str d)

-- the key of a member, which is empty where nothing is said
abbrev pub key_or_empty : Option Data → Option Key
key_or_empty None = Some (record { 0 = [] })
key_or_empty (Some d) = key_of d

abbrev pub as_place : Data → Data → Option Place
as_place k i = option_and_then (λ index. option_map (λ key. record { key = key; index = index }) (key_of k)) (as_small i)

-- keys and indexes in turn
abbrev pub places_in : Items → Option (List Place)
places_in no_items = Some []
places_in (item k no_items) = None
places_in (item k (item i ds)) = option_and_then (λ p. option_map (λ ps. p ∷ ps) (places_in ds)) (as_place k i)

-- a path has fewer than 2^32 places, as each path has that a line of an input holds
abbrev pub short_path : List Place → Option (List Place)
short_path ps = if nat_lt (length ps) (2 ^ 32) then Some ps else None

abbrev pub path_in : List ℕ → Data → Option (List Place)
path_in name d = option_and_then short_path (option_and_then places_in (option_and_then as_array (get name d)))

-- the revision that a member names, of the form `s.n`
abbrev pub rev_in : List ℕ → Data → Option Rev
rev_in name d = option_and_then read_rev (option_and_then as_str (get name d))

-- the UUID of version 4 that a value is
abbrev pub as_uuid : Data → Option ℕ
as_uuid d = option_and_then uuid_read (as_str d)

-- the UUID of a member, if there is one
abbrev pub uuid_or_none : Option Data → Option (Option ℕ)
uuid_or_none None = Some None
uuid_or_none (Some d) = option_map (λ u. Some u) (as_uuid d)

abbrev pub uuid_in : Data → Option (Option ℕ)
uuid_in d = uuid_or_none (get (codes "uuid") d)

-- values that are all trees
abbrev pub trees_in : Items → Option (List Node)
trees_in no_items = Some []
trees_in (item d ds) = option_and_then (λ t. option_map (λ ts. t ∷ ts) (trees_in ds)) (tree_of d)

-- one tree at the least, and all together within the limits of trees
abbrev pub few : List Node → Option (List Node)
few ts = if nat_le 1 (length ts) && is_ok (check_items (nodes_of ts)) then Some ts else None

abbrev pub items_in : Data → Option (List Node)
items_in d = option_and_then (λ ds. option_and_then few (trees_in ds)) (option_and_then as_array (get (codes "items") d))

abbrev pub item_in : Data → Option Node
item_in d = option_and_then tree_of (get (codes "item") d)

-- the form of a schema that keeps the rules
abbrev pub sound_schema : Data → Option SchemaView
sound_schema d = option_and_then (λ s. if is_sound s then Some s else None) (schema_of d)

abbrev pub schema_in : Data → Option SchemaView
schema_in d = option_and_then sound_schema (get (codes "schema") d)
