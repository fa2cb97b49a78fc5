-- The rules of normal form: a closed list by which a change or a step is judged as it stands alone, without a document.
use Rattle.std.specs.Prelude.{◌≡◌, ◌≢◌, ◌⊎◌, ◌^◌, ◌<◌, ◌++◌, List, [], ◌∷◌, map, length, Option, Some, None, IsSome, IsTrue, IfSome, MatchOption, if◌then◌else◌}
use Rattle.std.specs.List.{AllByRecursion, list_any, flat_map}
use Rattle.st_ids.specs.Listing.{AreDistinct, Has, IsRising}
use Rattle.st_ids.specs.Order.{same_node, node_cmp, field_cmp}
use Rattle.st_ids.specs.declared.names.CellId.{CellId}
use Rattle.st_ids.specs.declared.names.FieldId.{FieldId}
use Rattle.st_ids.specs.declared.names.NodeId.{NodeId}
use Rattle.st_ids.specs.declared.names.Rev.{Rev}
use Rattle.st_marks.specs.declared.changes.Change.{Change}
use Rattle.st_marks.specs.declared.changes.NewNode.{NewNode}
use Rattle.st_normal.specs.declared.entries.Found.{Found}
use Rattle.st_marks.specs.declared.marks.How.{How}
use Rattle.st_marks.specs.declared.marks.How.TheVariants.{Stay, Here, Leave}
use Rattle.st_marks.specs.declared.marks.Loose.{Loose}
use Rattle.st_marks.specs.declared.marks.RegMark.{RegMark}
use Rattle.st_marks.specs.declared.marks.RegStep.{RegStep}
use Rattle.st_marks.specs.declared.marks.RowMarks.{RowMarks}
use Rattle.st_marks.specs.declared.places.Spot.{Spot}
use Rattle.st_marks.specs.declared.schemas.SchemaEntry.{SchemaEntry}
use Rattle.st_marks.specs.declared.schemas.SchemaStep.{SchemaStep}
use Rattle.st_marks.specs.declared.steps.Step.{Step}
use Rattle.st_marks.specs.Agree.{LeadsUp}
use Rattle.st_marks.specs.Document.{first_of, node_of}
use Rattle.st_ids.specs.Root.{opening, root}
use Rattle.st_marks.specs.Embedding.{tells}
use Rattle.st_marks.specs.Intent.{same_option}
use Rattle.st_marks.specs.Row.{CellMark, Counted, Gap, Touch, Make, Fill, merge, spread}
use Rattle.st_marks.specs.Listings.{Places, cells_after, cells_before, cells_in, cells_made, nodes_new, one_or_none, listing_after_change, listing_after_step, listing_before_change, listing_before_step}
use Rattle.st_marks.specs.How.{is_stay}

-- ## What is listed

-- the node that a mark finds in a full cell
abbrev pub found_by : CellMark → List Found
found_by Counted = []
found_by (Gap c) = []
found_by (Touch c n h) = record { node = n; how = h } ∷ []
found_by (Make c n b) = []
found_by (Fill c n) = []

-- the nodes that a row's marks find in full cells
abbrev pub found_in : List CellMark → List Found
found_in = flat_map found_by

-- the node that comes into a cell
abbrev pub incoming_by : CellMark → List NodeId
incoming_by Counted = []
incoming_by (Gap c) = []
incoming_by (Touch c n h) = []
incoming_by (Make c n b) = if b then n ∷ [] else []
incoming_by (Fill c n) = n ∷ []

-- the nodes that come into a row's cells
abbrev pub incoming_nodes : List CellMark → List NodeId
incoming_nodes = flat_map incoming_by

-- the owner of the empty cell that a mark makes
abbrev pub hole_owner : CellMark → List NodeId
hole_owner Counted = []
hole_owner (Gap c) = []
hole_owner (Touch c n h) = []
hole_owner (Make c n b) = if b then [] else n ∷ []
hole_owner (Fill c n) = []

-- the owners of the empty cells that a row's marks make
abbrev pub hole_owners : List CellMark → List NodeId
hole_owners = flat_map hole_owner

-- the owner of the cell that a mark fills
abbrev pub fill_owner : CellMark → List NodeId
fill_owner Counted = []
fill_owner (Gap c) = []
fill_owner (Touch c n h) = []
fill_owner (Make c n b) = []
fill_owner (Fill c n) = n ∷ []

-- the owners of the cells that a row's marks fill
abbrev pub fill_owners : List CellMark → List NodeId
fill_owners = flat_map fill_owner

-- of all rows
abbrev pub in_rows : {A : Type 0} → (List CellMark → List A) → List RowMarks → List A
in_rows f rows = flat_map (λ (r : RowMarks). f (spread r.marks)) rows

-- a register's occupant, if there is one
abbrev pub found_held : Option NodeId → How → List Found
found_held None h = []
found_held (Some n) h = record { node = n; how = h } ∷ []

-- a node that is nowhere
abbrev pub found_loose : List Loose → List Found
found_loose loose = map (λ (l : Loose). record { node = l.node; how = l.how }) loose

-- what becomes of a register's occupant over a step
abbrev pub how_over : RegStep → How
how_over r = if same_option same_node r.before r.after then Stay else Leave

-- what a change or a step lists, as far as one rule judges both
pub record Entries : Type 0 where
  -- the nodes that it makes
  pub new : List NodeId
  pub rows : List RowMarks
  -- the nodes that it finds: in rows, in registers and nowhere
  pub found : List Found
  -- the nodes that it puts into rows and registers where they aren't
  pub put : List NodeId
  -- the fields of listed registers
  pub registers : List FieldId

-- what is listed by new nodes, rows, registers and nodes that are nowhere, where it is known whom a register finds, whom it puts, and which it is
abbrev pub entries_by : {R : Type 0} → (R → List Found) → (R → List NodeId) → (R → FieldId) → List NewNode → List RowMarks → List R → List Loose → Entries
entries_by found put field new rows regs loose = record {
  new = nodes_new new;
  rows = rows;
  found = in_rows found_in rows ++ (flat_map found regs ++ found_loose loose);
  put = in_rows incoming_nodes rows ++ flat_map put regs;
  registers = map field regs;
}

-- whom a change finds in a register
abbrev pub found_at : RegMark → List Found
found_at r = found_held r.held r.how

-- whom a change puts into a register
abbrev pub put_at : RegMark → List NodeId
put_at r = one_or_none r.fill

-- what a change lists
abbrev pub entries_of_change : Change → Entries
entries_of_change C = entries_by found_at put_at (λ r. r.field) C.new C.rows C.regs C.loose

-- whom a step finds in a register
abbrev pub found_over : RegStep → List Found
found_over r = found_held r.before (how_over r)

-- whom a step puts into a register
abbrev pub put_over : RegStep → List NodeId
put_over r = if same_option same_node r.before r.after then [] else one_or_none r.after

-- what a step lists
abbrev pub entries_of_step : Step → Entries
entries_of_step S = entries_by found_over put_over (λ r. r.field) S.new S.rows S.regs S.loose

-- it finds the node
abbrev pub IsFound : Entries → NodeId → Type 0
IsFound L n = Has (map (λ (f : Found). f.node) L.found) n

-- it finds the node, of which this becomes
abbrev pub IsFoundAs : Entries → NodeId → How → Type 0
IsFoundAs L n h = Has L.found (record { node = n; how = h })

-- the nodes of listed fields
abbrev pub fields_of : Entries → List NodeId
fields_of L = map (λ (r : RowMarks). r.node) L.rows ++ map (λ (f : FieldId). f.node) L.registers

-- it lists the node's row or a register of the node
abbrev pub HasListedField : Entries → NodeId → Type 0
HasListedField L n = Has (fields_of L) n

-- the nodes that stay where they are found
abbrev pub staying_nodes : List Found → List NodeId
staying_nodes [] = []
staying_nodes (f ∷ fs) = if is_stay f.how then f.node ∷ staying_nodes fs else staying_nodes fs

-- ## The rules on rows

-- the marks of each row are in normal form: no Skip of 0, and no two side by side
abbrev pub MarksAreMerged : Entries → Type 0
MarksAreMerged L = AllByRecursion (λ (r : RowMarks). r.marks ≡ merge (spread r.marks)) L.rows

-- a row is listed for a cell that is made or filled, or for a node that is found
abbrev pub RowsTell : Entries → Type 0
RowsTell L = AllByRecursion (λ (r : RowMarks). IsTrue (list_any tells (spread r.marks))) L.rows

-- a row lists fewer than 2^32 cells before and after
abbrev pub RowsAreShort : Entries → Type 0
RowsAreShort L = AllByRecursion (λ (r : RowMarks). (length (cells_before (spread r.marks)) < 2 ^ 32) × (length (cells_after (spread r.marks)) < 2 ^ 32)) L.rows

-- no cell is listed twice
abbrev pub CellsAreOnce : Entries → Type 0
CellsAreOnce L = AreDistinct (λ c. c) (in_rows cells_in L.rows)

-- the row of a new node has only cells that are made
abbrev pub NewRowsAreMade : Entries → Type 0
NewRowsAreMade L = AllByRecursion (λ (r : RowMarks). Has L.new r.node → cells_before (spread r.marks) ≡ []) L.rows

-- ## The rules on nodes

-- a node is found once
abbrev pub NodesAreFoundOnce : Entries → Type 0
NodesAreFoundOnce L = AreDistinct (λ (f : Found). f.node) L.found

-- a node is put once
abbrev pub NodesArePutOnce : Entries → Type 0
NodesArePutOnce L = AreDistinct (λ n. n) L.put

-- a node that is put is new, or leaves the place where it is found
abbrev pub PutNodesLeave : Entries → Type 0
PutNodesLeave L = AllByRecursion (λ (n : NodeId). Has L.new n ⊎ IsFoundAs L n Leave) L.put

-- no new node is found, and the root isn't new
abbrev pub NewNodesAreNotFound : Entries → Type 0
NewNodesAreNotFound L = AllByRecursion (λ (n : NodeId). (n ≢ root) × (IsFound L n → ⊥)) L.new

-- the root is neither found nor put
abbrev pub RootStays : Entries → Type 0
RootStays L = (IsFound L root → ⊥) × (Has L.put root → ⊥)

-- a cell that is filled was there before, and so was its owner
abbrev pub FilledCellsAreOld : Entries → Type 0
FilledCellsAreOld L = AllByRecursion (λ (n : NodeId). Has L.new n → ⊥) (in_rows fill_owners L.rows)

-- a node that is nowhere leaves only where it is put
abbrev pub LooseNodesArePut : Entries → List Loose → Type 0
LooseNodesArePut L loose = AllByRecursion (λ (l : Loose). l.how ≡ Leave → Has L.put l.node) loose

-- the node of each listed field is the root, new or found
abbrev pub FieldsAreFound : Entries → Type 0
FieldsAreFound L = AllByRecursion (λ (n : NodeId). (n ≡ root) ⊎ Has L.new n ⊎ IsFound L n) (fields_of L)

-- no register has the empty key
abbrev pub KeysAreThere : Entries → Type 0
KeysAreThere L = AllByRecursion (λ (f : FieldId). f.key.0 ≢ []) L.registers

-- the rules that changes and steps have in common
pub record ObeysCommonRules (L : Entries) : Type 0 where
  pub merged : MarksAreMerged L
  pub tells : RowsTell L
  pub short : RowsAreShort L
  pub cells_once : CellsAreOnce L
  pub new_rows : NewRowsAreMade L
  pub found_once : NodesAreFoundOnce L
  pub put_once : NodesArePutOnce L
  pub put_leave : PutNodesLeave L
  pub new_not_found : NewNodesAreNotFound L
  pub root_stays : RootStays L
  pub filled_old : FilledCellsAreOld L
  pub fields_found : FieldsAreFound L
  pub keys : KeysAreThere L

-- ## The rules on changes

-- each list rises by name
pub record ChangeIsRising (C : Change) : Type 0 where
  pub need : IsRising node_cmp (λ (n : NodeId). n) C.need
  pub new : IsRising node_cmp (λ (m : NewNode). m.node) C.new
  pub rows : IsRising node_cmp (λ (r : RowMarks). r.node) C.rows
  pub regs : IsRising field_cmp (λ (r : RegMark). r.field) C.regs
  pub loose : IsRising node_cmp (λ (l : Loose). l.node) C.loose

-- new nodes and cells have the change's revision
abbrev pub NewNamesHaveItsRevision : Change → Type 0
NewNamesHaveItsRevision C = AllByRecursion (λ (m : NewNode). m.node.0.rev ≡ C.rev) C.new × AllByRecursion (λ (c : CellId). c.0.rev ≡ C.rev) (in_rows cells_made C.rows)

-- an empty cell is made for a node that is new, that is set where it is, or that leaves
abbrev pub HolesHaveMovers : Change → Type 0
HolesHaveMovers C = AllByRecursion (λ (n : NodeId). Has (nodes_new C.new) n ⊎ IsFoundAs (entries_of_change C) n Here ⊎ IsFoundAs (entries_of_change C) n Leave) (in_rows hole_owners C.rows)

-- a register that is filled, or whose occupant is set there, is cleared
abbrev pub FilledRegistersAreCleared : Change → Type 0
FilledRegistersAreCleared C = AllByRecursion (λ (r : RegMark). IsSome r.fill ⊎ (r.how ≡ Here) → IsTrue r.clear) C.regs

-- where there is no occupant, nothing becomes of it; who comes in isn't the occupant, and nobody does where that one is set there
abbrev pub RegisterMarksFit : Change → Type 0
RegisterMarksFit C = AllByRecursion (λ (r : RegMark). (r.held ≡ None → r.how ≡ Stay) × (IsSome r.fill → r.fill ≢ r.held) × (r.how ≡ Here → r.fill ≡ None)) C.regs

-- a register is listed because it is cleared, or for its occupant
abbrev pub RegistersTell : Change → Type 0
RegistersTell C = AllByRecursion (λ (r : RegMark). IsTrue r.clear ⊎ IsSome r.held) C.regs

-- a register of a new node holds nothing before
abbrev pub NewRegistersAreEmpty : Change → Type 0
NewRegistersAreEmpty C = AllByRecursion (λ (r : RegMark). Has (nodes_new C.new) r.field.node → r.held ≡ None) C.regs

-- a needed node is the root or found
abbrev pub NeededNodesAreFound : Change → Type 0
NeededNodesAreFound C = AllByRecursion (λ (n : NodeId). (n ≡ root) ⊎ IsFound (entries_of_change C) n) C.need

-- the occupant of a register that isn't cleared
abbrev pub kept_at : RegMark → List Found
kept_at r = if r.clear then [] else found_held r.held r.how

-- a node that stays is found because it is needed, or because a field of it is listed; but the occupant of a register that is
-- cleared is found in any case
abbrev pub StayingNodesAreMentioned : Change → Type 0
StayingNodesAreMentioned C = AllByRecursion (λ (n : NodeId). Has C.need n ⊎ HasListedField (entries_of_change C) n)
    (staying_nodes (in_rows found_in C.rows ++ (flat_map kept_at C.regs ++ found_loose C.loose)))

-- the places before lead up without a ring
abbrev pub NoRingBeforeChange : Change → Type 0
NoRingBeforeChange C = (n : NodeId) → LeadsUp (Places (listing_before_change C)) n n → ⊥

-- a new node, where the change leaves it inside a new node
abbrev pub IsNewInNew : Change → NodeId → Spot → Type 0
IsNewInNew C n s = Has (nodes_new C.new) n × IfSome (node_of s) (Has (nodes_new C.new)) × Places (listing_after_change C) n s

-- new nodes inside new nodes form no ring
abbrev pub NoRingOfNewNodes : Change → Type 0
NoRingOfNewNodes C = (n : NodeId) → LeadsUp (IsNewInNew C) n n → ⊥

-- under the opening's schema, which is always in effect, the base is
abbrev pub OpeningIsBase : Change → Type 0
OpeningIsBase C = C.under ≡ opening → IsTrue C.base

-- a change of data
pub record ObeysDataRules (C : Change) : Type 0 where
  pub common : ObeysCommonRules (entries_of_change C)
  pub rising : ChangeIsRising C
  pub revision : NewNamesHaveItsRevision C
  pub holes : HolesHaveMovers C
  pub cleared : FilledRegistersAreCleared C
  pub registers_fit : RegisterMarksFit C
  pub registers_tell : RegistersTell C
  pub new_registers : NewRegistersAreEmpty C
  pub loose_put : LooseNodesArePut (entries_of_change C) C.loose
  pub needed : NeededNodesAreFound C
  pub mentioned : StayingNodesAreMentioned C
  pub no_ring : NoRingBeforeChange C
  pub no_new_ring : NoRingOfNewNodes C
  pub base : OpeningIsBase C

-- a change of schema has nothing else, isn't the opening, and isn't made under itself
pub record ObeysSchemaRules (C : Change) : Type 0 where
  pub alone : (C.need ≡ []) × (C.new ≡ []) × (C.rows ≡ []) × (C.regs ≡ []) × (C.loose ≡ [])
  pub not_opening : C.rev ≢ opening
  pub not_under_itself : IsTrue C.base → C.under ≢ C.rev

-- the rules of normal form of a change
abbrev pub ObeysChangeRules : Change → Type 0
ObeysChangeRules C = MatchOption C.schema (ObeysDataRules C) (λ _. ObeysSchemaRules C)

-- ## The rules on steps

-- each list rises by name
pub record StepIsRising (S : Step) : Type 0 where
  pub new : IsRising node_cmp (λ (m : NewNode). m.node) S.new
  pub rows : IsRising node_cmp (λ (r : RowMarks). r.node) S.rows
  pub regs : IsRising field_cmp (λ (r : RegStep). r.field) S.regs
  pub loose : IsRising node_cmp (λ (l : Loose). l.node) S.loose

-- no node is set where it is: a step says only where nodes stand
abbrev pub NothingIsSetHere : Step → Type 0
NothingIsSetHere S = AllByRecursion (λ (f : Found). f.how ≢ Here) (entries_of_step S).found

-- a register is listed because its occupant differs, or for its occupant
abbrev pub RegistersTellOver : Step → Type 0
RegistersTellOver S = AllByRecursion (λ (r : RegStep). IsSome r.before ⊎ IsSome r.after) S.regs

-- a register of a new node holds nothing before
abbrev pub NewRegistersAreEmptyBefore : Step → Type 0
NewRegistersAreEmptyBefore S = AllByRecursion (λ (r : RegStep). Has (nodes_new S.new) r.field.node → r.before ≡ None) S.regs

-- a node that stays is found because a field of it is listed
abbrev pub StayingNodesLeadOn : Step → Type 0
StayingNodesLeadOn S = AllByRecursion (HasListedField (entries_of_step S)) (staying_nodes (entries_of_step S).found)

-- the places before and after lead up without a ring
pub record NoRingOverStep (S : Step) : Type 0 where
  pub before : (n : NodeId) → LeadsUp (Places (listing_before_step S)) n n → ⊥
  pub after : (n : NodeId) → LeadsUp (Places (listing_after_step S)) n n → ⊥

-- entries of which each revision is there once, none the opening's and none the given one
pub record AreEntriesBehind (on : Rev) (entries : List SchemaEntry) : Type 0 where
  pub once : AreDistinct (λ (e : SchemaEntry). e.rev) entries
  pub behind : AllByRecursion (λ (e : SchemaEntry). (e.rev ≢ opening) × (e.rev ≢ on)) entries

-- the entries that go and those that come stand behind the last that both lists share, and differ in the first, if any
pub record SchemaStepFits (s : SchemaStep) : Type 0 where
  pub cut : AreEntriesBehind s.on s.cut
  pub add : AreEntriesBehind s.on s.add
  pub differ : first_of s.cut ≢ first_of s.add

-- the rules of normal form of a step
pub record ObeysStepRules (S : Step) : Type 0 where
  pub common : ObeysCommonRules (entries_of_step S)
  pub rising : StepIsRising S
  pub set_nowhere : NothingIsSetHere S
  pub registers_tell : RegistersTellOver S
  pub new_registers : NewRegistersAreEmptyBefore S
  pub loose_put : LooseNodesArePut (entries_of_step S) S.loose
  pub mentioned : StayingNodesLeadOn S
  pub no_ring : NoRingOverStep S
  pub schema : IfSome S.schema SchemaStepFits
