-- What is before a step, read off the step and a forest of the document to which it leads; and what a change finds there.
use Rattle.std.specs.Prelude.{◌≡◌, ◌≢◌, ◌↔◌, ◌&&◌, ◌||◌, Bool, true, false, not, List, [], Option, None, IsTrue, IfSome, is_some, map, option_map, unwrap_or}
use Rattle.std.specs.BTreeMap.{get}
use Rattle.std.specs.List.{AllByRecursion}
use Rattle.std.specs.Option.{option_map_or}
use Rattle.st_ids.specs.Listing.{item_of}
use Rattle.st_ids.specs.Order.{field_cmp, node_cmp, same_rev}
use Rattle.st_ids.specs.declared.names.CellId.{CellId}
use Rattle.st_ids.specs.declared.names.FieldId.{FieldId}
use Rattle.st_ids.specs.declared.names.NodeId.{NodeId}
use Rattle.st_marks.specs.declared.changes.Change.{Change}
use Rattle.st_marks.specs.declared.changes.NewNode.{NewNode}
use Rattle.st_marks.specs.declared.marks.Loose.{Loose}
use Rattle.st_marks.specs.declared.marks.RegMark.{RegMark}
use Rattle.st_marks.specs.declared.marks.RegStep.{RegStep}
use Rattle.st_marks.specs.declared.marks.RowMarks.{RowMarks}
use Rattle.st_marks.specs.declared.places.Slot.{Slot}
use Rattle.st_marks.specs.declared.places.Spot.{Spot}
use Rattle.st_marks.specs.declared.schemas.SchemaEntry.{SchemaEntry}
use Rattle.st_marks.specs.declared.steps.Step.{Step}
use Rattle.st_marks.specs.Embedding.{is_among, is_nowhere}
use Rattle.st_marks.specs.Listings.{cells_before, cells_made, is_among_cells, marks_of, nodes_loose, nodes_new, one_or_none}
use Rattle.st_marks.specs.Row.{CellMark, spread}
use Rattle.st_marks.specs.Verdict.{HasBase}
use Rattle.st_normal.specs.declared.entries.Found.{Found}
use Rattle.st_normal.specs.Rules.{found_in, in_rows}
use Rattle.st_puts.specs.Seen.{AreAsSeen}
use Rattle.st_forest.specs.declared.forest.Forest.{Forest}
use Rattle.st_forest.specs.declared.forest.Seated.{Seated}
use Rattle.st_author_laws.specs.Back.{finds_node, row_back, schemas_by}

-- ## Off the forest

-- the slots of a node's row
abbrev pub slots_in : Forest → NodeId → List Slot
slots_in F n = unwrap_or (get node_cmp F.rows n) []

-- the node is there
abbrev pub has_node : Forest → NodeId → Bool
has_node F n = is_some (get node_cmp F.nodes n)

-- where the node stands; nowhere, if it isn't there
abbrev pub place_in : Forest → NodeId → Spot
place_in F n = unwrap_or (option_map (λ (s : Seated). s.place) (get node_cmp F.nodes n)) Spot.Nowhere

-- ## Whom a step finds

-- the nodes that a row's marks find in full cells
abbrev pub found_names : List CellMark → List NodeId
found_names ms = map (λ (f : Found). f.node) (found_in ms)

-- the node that a step finds in a register
abbrev pub found_over_names : RegStep → List NodeId
found_over_names r = one_or_none r.before

-- ## Before the step

-- the row before
abbrev pub row_seen : Forest → Step → NodeId → List Slot
row_seen F S n = row_back (slots_in F n) (marks_of S.rows n)

-- the occupant before
abbrev pub held_seen : Forest → Step → FieldId → Option NodeId
held_seen F S f = option_map_or (λ (r : RegStep). r.before) (item_of field_cmp (λ (r : RegStep). r.field) S.regs f) (get field_cmp F.held f)

-- the node is there before
abbrev pub known_seen : Forest → Step → NodeId → Bool
known_seen F S n = has_node F n && not (is_among (nodes_new S.new) n)

-- the node is nowhere before
abbrev pub nowhere_seen : Forest → Step → NodeId → Bool
nowhere_seen F S n = is_among (nodes_loose S.loose) n || (not (finds_node S n) && is_nowhere (place_in F n))

-- ## A change

-- a cell of the change's revision that it makes, and the step doesn't
abbrev pub makes_anew : Step → Change → CellId → Bool
makes_anew S C c = same_rev c.0.rev C.rev && (is_among_cells (in_rows cells_made C.rows) c && not (is_among_cells (in_rows cells_made S.rows) c))

-- no cell of a row is one that the change makes and the step doesn't
abbrev pub IsFree : Step → Change → List Slot → Type 0
IsFree S C = AllByRecursion (λ (s : Slot). makes_anew S C s.cell ≡ false)

-- the change finds what is so of rows and registers
abbrev pub FindsFields : Forest → Step → Change → Type 0
FindsFields F S C = AllByRecursion (λ (r : RowMarks). AreAsSeen (row_seen F S r.node) (cells_before (spread r.marks))) C.rows
    × AllByRecursion (λ (r : RegMark). held_seen F S r.field ≡ r.held) C.regs

-- of nodes: those that are nowhere, and new ones
abbrev pub FindsNodes : Forest → Step → Change → Type 0
FindsNodes F S C = AllByRecursion (λ (l : Loose). (nowhere_seen F S l.node ≡ true) × (known_seen F S l.node ≡ true)) C.loose
    × AllByRecursion (λ (m : NewNode). known_seen F S m.node ≡ false) C.new

-- and of schema entries
abbrev pub FindsEntries : Forest → Step → Change → Type 0
FindsEntries F S C = (IsTrue C.base ↔ HasBase (schemas_by S.schema F.schemas) C.schema C.under)
    × IfSome C.schema (λ _. AllByRecursion (λ (e : SchemaEntry). e.rev ≢ C.rev) (schemas_by S.schema F.schemas))

-- the change finds before the step what is so, and makes nodes that aren't there
abbrev pub FindsAll : Forest → Step → Change → Type 0
FindsAll F S C = FindsFields F S C × FindsNodes F S C × FindsEntries F S C

-- ## No step

-- a step that lists nothing: from a document to itself
abbrev pub no_step : Step
no_step = record {
  new = [];
  rows = [];
  regs = [];
  loose = [];
  schema = None;
}
