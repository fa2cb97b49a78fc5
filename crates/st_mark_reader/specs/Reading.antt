-- Which value is which mark, row, register or node, over which value tells which name: the form alone.
use Rattle.std.specs.Prelude.{ℕ, List, [], ◌∷◌, length, nat_le, Bool, true, false, is_some, Option, None, Some, option_and_then, option_map, codes, if◌then◌else◌}
use Rattle.serde_json.specs.Data.{Data, null, boolean, number, string, array, object, Items, no_items, item, Members, no_members, member}
use Rattle.serde_json.specs.Find.{get, as_null, as_bool, as_str, as_array, as_number, as_u64}
use Rattle.st_ids.specs.declared.names.CellId.{CellId}
use Rattle.st_ids.specs.declared.names.FieldId.{FieldId}
use Rattle.st_ids.specs.declared.names.Key.{Key}
use Rattle.st_ids.specs.declared.names.Leaf.{Leaf}
use Rattle.st_ids.specs.declared.names.NodeId.{NodeId}
use Rattle.st_marks.specs.declared.changes.NewNode.{NewNode}
use Rattle.st_marks.specs.declared.marks.How.{How}
use Rattle.st_marks.specs.declared.marks.How.TheVariants.{Stay, Here, Leave}
use Rattle.st_marks.specs.declared.marks.Loose.{Loose}
use Rattle.st_marks.specs.declared.marks.Mark.{Mark}
use Rattle.st_marks.specs.declared.marks.Mark.TheVariants as mark
use Rattle.st_marks.specs.declared.marks.RegMark.{RegMark}
use Rattle.st_marks.specs.declared.marks.RowMarks.{RowMarks}
use Rattle.st_schema.specs.Conforms.{leaf_type}
use Rattle.st_schema.specs.Reading.{two_in, first_of}
use Rattle.st_schema.specs.Schema.{same, is_among, leaf_types}
use Rattle.st_schema.specs.TreeText.{leaf_of}
use Rattle.st_ids.specs.Numeral.{small}
use Rattle.st_mark_reader.specs.Naming.{NameForm}
use Rattle.st_mark_reader.specs.declared.parts.Fate.{Fate}

-- ## Values

-- what each of the items is, if each is something
abbrev pub each_of : {A : Type 0} → (Data → Option A) → Items → Option (List A)
each_of f no_items = Some []
each_of f (item d ds) = option_and_then (λ x. option_map (λ xs. x ∷ xs) (each_of f ds)) (f d)

abbrev pub list_of : {A : Type 0} → (Data → Option A) → Data → Option (List A)
list_of f d = option_and_then (each_of f) (as_array d)

-- the names of the members, in their order
abbrev pub has_names : List (List ℕ) → Members → Bool
has_names [] no_members = true
has_names [] (member k d ms) = false
has_names (name ∷ names) no_members = false
has_names (name ∷ names) (member k d ms) = if same k name then has_names names ms else false

-- an object that has the members of these names, in their order, and no others
abbrev pub is_named : List (List ℕ) → Data → Bool
is_named names null = false
is_named names (boolean b) = false
is_named names (number n) = false
is_named names (string s) = false
is_named names (array ds) = false
is_named names (object ms) = has_names names ms

-- a number below 2^32
abbrev pub small_number : Data → Option ℕ
small_number d = option_and_then small (option_and_then as_u64 (as_number d))

-- exactly three items
abbrev pub three_in : Items → Option (Data × Data × Data)
three_in no_items = None
three_in (item a no_items) = None
three_in (item a (item b no_items)) = None
three_in (item a (item b (item c no_items))) = Some (a, b, c)
three_in (item a (item b (item c (item d ds)))) = None

-- exactly four items
abbrev pub four_in : Items → Option (Data × Data × Data × Data)
four_in no_items = None
four_in (item a no_items) = None
four_in (item a (item b no_items)) = None
four_in (item a (item b (item c no_items))) = None
four_in (item a (item b (item c (item d no_items)))) = Some (a, b, c, d)
four_in (item a (item b (item c (item d (item e ds))))) = None

-- exactly six items
abbrev pub six_in : Items → Option (Data × Data × Data × Data × Data × Data)
six_in no_items = None
six_in (item a no_items) = None
six_in (item a (item b no_items)) = None
six_in (item a (item b (item c no_items))) = None
six_in (item a (item b (item c (item d no_items)))) = None
six_in (item a (item b (item c (item d (item e no_items))))) = None
six_in (item a (item b (item c (item d (item e (item f no_items)))))) = Some (a, b, c, d, e, f)
six_in (item a (item b (item c (item d (item e (item f (item g ds))))))) = None

-- what the value of a member is
abbrev pub member_of : {A : Type 0} → (Data → Option A) → List ℕ → Data → Option A
member_of f name d = option_and_then f (get name d)

-- ## Names

abbrev pub node_of : NameForm → Data → Option NodeId
node_of F d = option_map (λ a. record { 0 = a }) (F.atom d)

abbrev pub cell_of : NameForm → Data → Option CellId
cell_of F d = option_map (λ a. record { 0 = a }) (F.atom d)

-- a node or null
abbrev pub occupant_of : NameForm → Data → Option (Option NodeId)
occupant_of F d = if is_some (as_null d) then Some None else option_map Some (node_of F d)

-- a key has at most 64 bytes
abbrev pub key_within : List ℕ → Option Key
key_within t = if nat_le (length t) 64 then Some (record { 0 = t }) else None

abbrev pub key_of : Data → Option Key
key_of d = option_and_then key_within (as_str d)

abbrev pub field_of : NameForm → Data → Data → Option FieldId
field_of F n k = option_and_then (λ x. option_map (λ key. record { node = x; key = key }) (key_of k)) (node_of F n)

-- ## Marks

abbrev pub how_named : List ℕ → Option How
how_named t =
    if same t (codes "at") then Some Stay else
    if same t (codes "set") then Some Here else
    if same t (codes "out") then Some Leave else None

abbrev pub how_of : Data → Option How
how_of d = option_and_then how_named (as_str d)

-- the mark of a word, a cell and a node
abbrev pub mark_named : List ℕ → CellId → NodeId → Option Mark
mark_named t c x =
    if same t (codes "make") then Some (mark.Make c x true) else
    if same t (codes "hole") then Some (mark.Make c x false) else
    if same t (codes "fill") then Some (mark.Fill c x) else
    option_map (λ how. mark.Touch c x how) (how_named t)

abbrev pub gap_of : NameForm → Data → Data → Option Mark
gap_of F w c = option_and_then (λ t. if same t (codes "gap") then option_map (λ cell. mark.Gap cell) (cell_of F c) else None) (as_str w)

abbrev pub cell_mark_of : NameForm → Data → Data → Data → Option Mark
cell_mark_of F w c x = option_and_then (λ t. option_and_then (λ cell. option_and_then (λ node. mark_named t cell node) (node_of F x)) (cell_of F c)) (as_str w)

-- the mark of a word and a cell, or of a word, a cell and a node
abbrev pub mark_in : NameForm → Items → Option Mark
mark_in F ds = first_of (two_in ds) (λ p. gap_of F p.0 p.1) (option_and_then (λ p. cell_mark_of F p.0 p.1 p.2) (three_in ds))

-- a mark; a number counts full cells
abbrev pub mark_of : NameForm → Data → Option Mark
mark_of F d = first_of (as_array d) (mark_in F) (option_map (λ k. mark.Skip k) (small_number d))

-- ## What a change lists

abbrev pub row_in : NameForm → Data × Data → Option RowMarks
row_in F p = option_and_then (λ node. option_map (λ marks. record { node = node; marks = marks }) (list_of (mark_of F) p.1)) (node_of F p.0)

abbrev pub row_of : NameForm → Data → Option RowMarks
row_of F d = option_and_then (row_in F) (option_and_then two_in (as_array d))

-- who is in a register, what becomes of that node, whether it is cleared, and who comes in
abbrev pub fate_of : NameForm → Data → Data → Data → Data → Option Fate
fate_of F h w c f =
    option_and_then (λ held.
    option_and_then (λ how.
    option_and_then (λ clear.
    option_map (λ fill. record { held = held; how = how; clear = clear; fill = fill })
    (occupant_of F f)) (as_bool c)) (how_of w)) (occupant_of F h)

-- the register of a field, with its fate
abbrev pub register_at : NameForm → Data → Data → Fate → Option RegMark
register_at F n k fate = option_map (λ field. record { field = field; held = fate.held; how = fate.how; clear = fate.clear; fill = fate.fill }) (field_of F n k)

-- the register of six values
abbrev pub register_in : NameForm → Data × Data × Data × Data × Data × Data → Option RegMark
register_in F p = option_and_then (register_at F p.0 p.1) (fate_of F p.2 p.3 p.4 p.5)

abbrev pub register_of : NameForm → Data → Option RegMark
register_of F d = option_and_then (register_in F) (option_and_then six_in (as_array d))

abbrev pub loose_in : NameForm → Data × Data → Option Loose
loose_in F p = option_and_then (λ node. option_map (λ how. record { node = node; how = how }) (how_of p.1)) (node_of F p.0)

abbrev pub loose_of : NameForm → Data → Option Loose
loose_of F d = option_and_then (loose_in F) (option_and_then two_in (as_array d))

-- a type that isn't a leaf's
abbrev pub if_no_leaf_type : List ℕ → Option (List ℕ)
if_no_leaf_type ty = if is_among ty leaf_types then None else Some ty

-- a value of a leaf type
abbrev pub if_of_type : List ℕ → Leaf → Option Leaf
if_of_type ty v = if same ty (leaf_type v) then Some v else None

abbrev pub branch_node_of : NameForm → Data → Data → Option NewNode
branch_node_of F n t = option_and_then (λ node. option_map (λ ty. record { node = node; ty = ty; leaf = None }) (option_and_then if_no_leaf_type (as_str t))) (node_of F n)

-- a leaf of a name and a type
abbrev pub typed_leaf : NodeId → List ℕ → Data → Option NewNode
typed_leaf x ty v = option_map (λ leaf. record { node = x; ty = ty; leaf = Some leaf }) (option_and_then (if_of_type ty) (leaf_of v))

abbrev pub leaf_node_of : NameForm → Data → Data → Data → Option NewNode
leaf_node_of F n t v = option_and_then (λ node. option_and_then (λ ty. typed_leaf node ty v) (as_str t)) (node_of F n)

-- a new node of a type that isn't a leaf's, or of a leaf type with a value of that type
abbrev pub new_in : NameForm → Items → Option NewNode
new_in F ds = first_of (two_in ds) (λ p. branch_node_of F p.0 p.1) (option_and_then (λ p. leaf_node_of F p.0 p.1 p.2) (three_in ds))

abbrev pub new_of : NameForm → Data → Option NewNode
new_of F d = option_and_then (new_in F) (as_array d)
