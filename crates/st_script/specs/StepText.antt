-- The value that stands for a step, and which steps are read of theirs.
use Rattle.std.specs.Prelude.{◌≡◌, ◌<◌, ◌≤◌, ◌^◌, ℕ, List, [], ◌∷◌, ◌++◌, length, Bool, true, Option, Some, None, IfSome, Result, Ok, codes}
use Rattle.serde_json.specs.Data.{Data, number, unsigned, string, array, object, Members, no_members, member}
use Rattle.serde_json.specs.View.{items_of}
use Rattle.serde_json.specs.Written.{compact_text}
use Rattle.st_clusters.specs.Free.{is_v4}
use Rattle.st_idcodec.specs.TableText.{uuid_text}
use Rattle.st_ids.specs.declared.names.Key.{Key}
use Rattle.st_ids.specs.declared.names.Place.{Place}
use Rattle.st_ids.specs.declared.names.Rev.{Rev}
use Rattle.st_ids.specs.Names.{rev_text}
use Rattle.st_tree.specs.Node.{Node, nodes_of}
use Rattle.st_tree.specs.Size.{check_of, check_items}
use Rattle.st_tree.specs.declared.limits.TreeFault.{TreeFault}
use Rattle.st_schema.specs.Schema.{SchemaView, is_sound}
use Rattle.st_schema.specs.Shape.{has_shape, all_have_shape}
use Rattle.st_schema.specs.TreeText.{tree_data, trees_data, tree_of}
use Rattle.st_schema.specs.Written.{schema_data}
use Rattle.st_script.specs.Line.{step_of_line}
use Rattle.st_script.specs.Steps.{EditView, insert, remove, move, set, clear, ActView, join, edit, need, begin, commit, abort, fork, rebase, merge, drop_branch, undo, upgrade, sequence, ack, deliver, leave, drop_client, reconnect, show, pending, StepView}

-- keys and indexes in turn
abbrev pub places_data : List Place → List Data
places_data [] = []
places_data (p ∷ ps) = string p.key.0 ∷ number (unsigned p.index) ∷ places_data ps

abbrev pub path_data : List Place → Data
path_data ps = array (items_of (places_data ps))

abbrev pub items_data : List Node → Data
items_data ts = array (trees_data (nodes_of ts))

-- a step that names a client alone
abbrev pub plain_data : List ℕ → List ℕ → Data
plain_data word client = object (member (codes "client") (string client) (member (codes "do") (string word) no_members))

-- a join, with the UUID of its session if one is told
abbrev pub uuid_members : Option ℕ → Members
uuid_members None = no_members
uuid_members (Some uuid) = member (codes "uuid") (string (uuid_text uuid)) no_members

abbrev pub join_data : List ℕ → Option ℕ → Data
join_data client uuid = object (member (codes "client") (string client) (member (codes "do") (string (codes "join")) (uuid_members uuid)))

-- who does a step, and on which branch, with the step's word
abbrev pub actor_members : List ℕ → List ℕ → ℕ → Members
actor_members word client branch = member (codes "branch") (number (unsigned branch)) (member (codes "client") (string client) (member (codes "do") (string word) no_members))

-- a need of the node that a path leads to
abbrev pub need_data : List ℕ → ℕ → List Place → Data
need_data client branch at = object (member (codes "at") (path_data at) (actor_members (codes "need") client branch))

-- an undo of the commit of a revision
abbrev pub undo_data : List ℕ → Rev → Data
undo_data client rev = object (member (codes "client") (string client) (member (codes "do") (string (codes "undo")) (member (codes "rev") (string (rev_text rev)) no_members)))

-- an upgrade to a schema
abbrev pub upgrade_data : List ℕ → SchemaView → Data
upgrade_data client schema = object (member (codes "client") (string client) (member (codes "do") (string (codes "upgrade")) (member (codes "schema") (schema_data schema) no_members)))

-- who edits which field, with the step's word
abbrev pub site_members : List ℕ → List ℕ → ℕ → List Place → Key → Members
site_members word client branch at key = member (codes "at") (path_data at) (member (codes "branch") (number (unsigned branch)) (member (codes "client") (string client) (member (codes "do") (string word)
    (member (codes "key") (string key.0) no_members))))

-- every member of a step, also one that holds what is meant where nothing is said, in byte order of the names
abbrev pub edit_data : List ℕ → ℕ → EditView → Data
edit_data client branch (insert at key index items) =
    object (member (codes "at") (path_data at) (member (codes "branch") (number (unsigned branch)) (member (codes "client") (string client) (member (codes "do") (string (codes "insert"))
    (member (codes "index") (number (unsigned index)) (member (codes "items") (items_data items) (member (codes "key") (string key.0) no_members)))))))
edit_data client branch (remove at key index count) =
    object (member (codes "at") (path_data at) (member (codes "branch") (number (unsigned branch)) (member (codes "client") (string client) (member (codes "count") (number (unsigned count))
    (member (codes "do") (string (codes "remove")) (member (codes "index") (number (unsigned index)) (member (codes "key") (string key.0) no_members)))))))
edit_data client branch (move at key index count to to_key to_index) =
    object (member (codes "at") (path_data at) (member (codes "branch") (number (unsigned branch)) (member (codes "client") (string client) (member (codes "count") (number (unsigned count))
    (member (codes "do") (string (codes "move")) (member (codes "index") (number (unsigned index)) (member (codes "key") (string key.0)
    (member (codes "to") (path_data to) (member (codes "to_index") (number (unsigned to_index)) (member (codes "to_key") (string to_key.0) no_members))))))))))
edit_data client branch (set at key item) =
    object (member (codes "at") (path_data at) (member (codes "branch") (number (unsigned branch)) (member (codes "client") (string client) (member (codes "do") (string (codes "set"))
    (member (codes "item") (tree_data item) (member (codes "key") (string key.0) no_members))))))
edit_data client branch (clear at key) = object (site_members (codes "clear") client branch at key)

abbrev pub act_data : List ℕ → ℕ → ActView → Data
act_data client branch (join uuid) = join_data client uuid
act_data client branch (edit e) = edit_data client branch e
act_data client branch (need at) = need_data client branch at
act_data client branch begin = object (actor_members (codes "begin") client branch)
act_data client branch commit = object (actor_members (codes "commit") client branch)
act_data client branch abort = object (actor_members (codes "abort") client branch)
act_data client branch fork = object (actor_members (codes "fork") client branch)
act_data client branch rebase = object (actor_members (codes "rebase") client branch)
act_data client branch merge = object (actor_members (codes "merge") client branch)
act_data client branch drop_branch = object (actor_members (codes "drop_branch") client branch)
act_data client branch (undo rev) = undo_data client rev
act_data client branch (upgrade schema) = upgrade_data client schema
act_data client branch sequence = plain_data (codes "sequence") client
act_data client branch ack = plain_data (codes "ack") client
act_data client branch deliver = plain_data (codes "deliver") client
act_data client branch leave = plain_data (codes "leave") client
act_data client branch drop_client = plain_data (codes "drop") client
act_data client branch reconnect = plain_data (codes "reconnect") client
act_data client branch show = object (actor_members (codes "show") client branch)
act_data client branch pending = plain_data (codes "pending") client

abbrev pub step_data : StepView → Data
step_data s = act_data s.client s.branch s.act

abbrev pub step_text : StepView → List ℕ
step_text s = compact_text (step_data s)

-- the limits of an edit's trees, which an insert's keep together
abbrev pub edit_limits : EditView → Result (Unit {0}) TreeFault
edit_limits (insert at key index items) = check_items (nodes_of items)
edit_limits (remove at key index count) = Ok tt
edit_limits (move at key index count to to_key to_index) = Ok tt
edit_limits (set at key item) = check_of item
edit_limits (clear at key) = Ok tt

abbrev pub act_limits : ActView → Result (Unit {0}) TreeFault
act_limits (join uuid) = Ok tt
act_limits (edit e) = edit_limits e
act_limits (need at) = Ok tt
act_limits begin = Ok tt
act_limits commit = Ok tt
act_limits abort = Ok tt
act_limits fork = Ok tt
act_limits rebase = Ok tt
act_limits merge = Ok tt
act_limits drop_branch = Ok tt
act_limits (undo rev) = Ok tt
act_limits (upgrade schema) = Ok tt
act_limits sequence = Ok tt
act_limits ack = Ok tt
act_limits deliver = Ok tt
act_limits leave = Ok tt
act_limits drop_client = Ok tt
act_limits reconnect = Ok tt
act_limits show = Ok tt
act_limits pending = Ok tt

-- the limits of a step's trees
abbrev pub limits_of : StepView → Result (Unit {0}) TreeFault
limits_of s = act_limits s.act

-- an edit's trees have the shape of trees that values show
abbrev pub edit_has_shape : EditView → Bool
edit_has_shape (insert at key index items) = all_have_shape (nodes_of items)
edit_has_shape (remove at key index count) = true
edit_has_shape (move at key index count to to_key to_index) = true
edit_has_shape (set at key item) = has_shape item
edit_has_shape (clear at key) = true

abbrev pub act_has_shape : ActView → Bool
act_has_shape (join uuid) = true
act_has_shape (edit e) = edit_has_shape e
act_has_shape (need at) = true
act_has_shape begin = true
act_has_shape commit = true
act_has_shape abort = true
act_has_shape fork = true
act_has_shape rebase = true
act_has_shape merge = true
act_has_shape drop_branch = true
act_has_shape (undo rev) = true
act_has_shape (upgrade schema) = true
act_has_shape sequence = true
act_has_shape ack = true
act_has_shape deliver = true
act_has_shape leave = true
act_has_shape drop_client = true
act_has_shape reconnect = true
act_has_shape show = true
act_has_shape pending = true

-- a step's trees have the shape of trees that values show
abbrev pub trees_have_shape : StepView → Bool
trees_have_shape s = act_has_shape s.act

-- ---- the steps that a line can hold

-- a client's name has 1 to 64 bytes
abbrev pub IsName : List ℕ → Type 0
IsName t = (1 ≤ length t) × (length t ≤ 64)

abbrev pub IsActor : List ℕ → ℕ → Type 0
IsActor client branch = IsName client × (branch < 2 ^ 32)

-- keys of at most 64 bytes, and indexes below 2^32
abbrev pub ArePlaces : List Place → Type 0
ArePlaces [] = Unit {0}
ArePlaces (p ∷ ps) = (length p.key.0 ≤ 64) × (p.index < 2 ^ 32) × ArePlaces ps

-- both parts of a revision are below 2^32
abbrev pub IsRev : Rev → Type 0
IsRev rev = (rev.session < 2 ^ 32) × (rev.num < 2 ^ 32)

-- a UUID of version 4, where one is told
abbrev pub IsUuid : ℕ → Type 0
IsUuid uuid = (uuid < 2 ^ 128) × (is_v4 uuid ≡ true)

-- fewer than 2^32 places
abbrev pub IsPath : List Place → Type 0
IsPath at = (length at < 2 ^ 32) × ArePlaces at

abbrev pub IsTarget : List Place → Key → Type 0
IsTarget at key = IsPath at × (length key.0 ≤ 64)

-- a row's place, and how many items, at the least one
abbrev pub IsSpan : ℕ → ℕ → Type 0
IsSpan index count = (index < 2 ^ 32) × (1 ≤ count) × (count < 2 ^ 32)

-- the tree is read of its JSON form: so is each tree within the limits that has the shape of trees that values show, whose
-- leaves have the types of their values and whose keys have at most 64 bytes
abbrev pub IsShown : Node → Type 0
IsShown t = tree_of (tree_data t) ≡ Some t

abbrev pub AreShown : List Node → Type 0
AreShown [] = Unit {0}
AreShown (t ∷ ts) = IsShown t × AreShown ts

-- one tree at the least, and all together within the limits
abbrev pub AreItems : List Node → Type 0
AreItems ts = (1 ≤ length ts) × (check_items (nodes_of ts) ≡ Ok tt) × AreShown ts

abbrev pub FitsEdit : EditView → Type 0
FitsEdit (insert at key index items) = IsTarget at key × (index < 2 ^ 32) × AreItems items
FitsEdit (remove at key index count) = IsTarget at key × IsSpan index count
FitsEdit (move at key index count to to_key to_index) =
    IsTarget at key × IsSpan index count × IsTarget to to_key × (to_index < 2 ^ 32)
FitsEdit (set at key item) = IsTarget at key × IsShown item
FitsEdit (clear at key) = IsTarget at key

-- an act on a branch, which is the main one, 0, where the line has no member for it; the schema of an upgrade keeps the
-- rules of schemas
abbrev pub FitsAct : ℕ → ActView → Type 0
FitsAct branch (join uuid) = (branch ≡ 0) × IfSome uuid IsUuid
FitsAct branch (edit e) = FitsEdit e
FitsAct branch (need at) = IsPath at
FitsAct branch begin = Unit {0}
FitsAct branch commit = Unit {0}
FitsAct branch abort = Unit {0}
FitsAct branch fork = Unit {0}
FitsAct branch rebase = Unit {0}
FitsAct branch merge = Unit {0}
FitsAct branch drop_branch = Unit {0}
FitsAct branch (undo rev) = (branch ≡ 0) × IsRev rev
FitsAct branch (upgrade schema) = (branch ≡ 0) × (is_sound schema ≡ true)
FitsAct branch sequence = branch ≡ 0
FitsAct branch ack = branch ≡ 0
FitsAct branch deliver = branch ≡ 0
FitsAct branch leave = branch ≡ 0
FitsAct branch drop_client = branch ≡ 0
FitsAct branch reconnect = branch ≡ 0
FitsAct branch show = Unit {0}
FitsAct branch pending = branch ≡ 0

-- a step as a line can hold it
abbrev pub FitsLine : StepView → Type 0
FitsLine s = IsActor s.client s.branch × FitsAct s.branch s.act

-- ---- lines that are written

-- a line is the step's, and without its line feed is read as that step
abbrev pub IsReadBack : List ℕ → StepView → Type 0
IsReadBack line s = (line ≡ step_text s ++ 10 ∷ []) × (step_of_line (step_text s) ≡ Ok s)
