-- The document from which a step leads, read off the step and the document to which it leads; and when a change finds there
-- what is so. An author's document is told in this way by the document of all commits received and the author's bridge.
use Rattle.std.specs.Prelude.{◌≡◌, ◌≢◌, ◌↔◌, ◌-◌, ◌++◌, ◌&&◌, ◌||◌, Bool, true, false, not, List, [], ◌∷◌, map, length, take, Option, Some, None, IsSome, IsTrue, IfSome, if◌then◌else◌}
use Rattle.std.specs.List.{AllByRecursion}
use Rattle.std.specs.Option.{option_map_or}
use Rattle.st_ids.specs.Listing.{Has, item_of}
use Rattle.st_ids.specs.Order.{field_cmp}
use Rattle.st_ids.specs.declared.names.CellId.{CellId}
use Rattle.st_ids.specs.declared.names.FieldId.{FieldId}
use Rattle.st_ids.specs.declared.names.NodeId.{NodeId}
use Rattle.st_marks.specs.declared.changes.Change.{Change}
use Rattle.st_marks.specs.declared.intents.Intent.{Intent}
use Rattle.st_marks.specs.declared.marks.Loose.{Loose}
use Rattle.st_marks.specs.declared.marks.RegMark.{RegMark}
use Rattle.st_marks.specs.declared.marks.RegStep.{RegStep}
use Rattle.st_marks.specs.declared.marks.RowMarks.{RowMarks}
use Rattle.st_marks.specs.declared.places.Slot.{Slot}
use Rattle.st_marks.specs.declared.places.Spot.{Spot}
use Rattle.st_marks.specs.declared.schemas.SchemaEntry.{SchemaEntry}
use Rattle.st_marks.specs.declared.schemas.SchemaStep.{SchemaStep}
use Rattle.st_marks.specs.declared.steps.Step.{Step}
use Rattle.st_marks.specs.Document.{Document, NodeType, content}
use Rattle.st_marks.specs.Embedding.{IsEmbedding, is_among, is_nowhere}
use Rattle.st_marks.specs.Intent.{Fits}
use Rattle.st_marks.specs.Listings.{cells_before, cells_made, is_among_cells, marks_of, nodes_loose, nodes_new}
use Rattle.st_marks.specs.Row.{CellMark, Counted, Gap, Touch, Make, Fill, spread}
use Rattle.st_marks.specs.Verdict.{HasBase}
use Rattle.st_normal.specs.declared.entries.Found.{Found}
use Rattle.st_normal.specs.Rules.{entries_of_step, in_rows}
use Rattle.st_puts.specs.Seen.{AreAsSeen}

-- ## One row

-- a cell, full or empty as is said
abbrev pub cell_as : Bool → Slot → Slot
cell_as b s = record { cell = s.cell; node = s.node; full = b }

-- a row, with what a step's marks say of it taken back: cells that it makes are out, and others are full or empty as before it.
-- Marks that aren't there say nothing, as those of a row that isn't listed.
abbrev pub row_back : List Slot → List CellMark → List Slot
row_back d [] = d
row_back [] (y ∷ ys) = []
row_back (s ∷ d) (Make c n b ∷ ys) = row_back d ys
row_back (s ∷ d) (Counted ∷ ys) = s ∷ row_back d ys
row_back (s ∷ d) (Gap c ∷ ys) = s ∷ row_back d ys
row_back (s ∷ d) (Touch c n h ∷ ys) = cell_as true s ∷ row_back d ys
row_back (s ∷ d) (Fill c n ∷ ys) = cell_as false s ∷ row_back d ys

-- ## The rest

-- the nodes that are there before
abbrev pub node_back : Step → Document → NodeId → Option NodeType
node_back S T n = if is_among (nodes_new S.new) n then None else T.nodes n

-- the occupant before
abbrev pub held_back : Step → Document → FieldId → Option NodeId
held_back S T f = option_map_or (λ (r : RegStep). r.before) (item_of field_cmp (λ (r : RegStep). r.field) S.regs f) (T.held f)

-- the step finds the node: in a row, in a register, or nowhere
abbrev pub finds_node : Step → NodeId → Bool
finds_node S n = is_among (map (λ (f : Found). f.node) (entries_of_step S).found) n

-- the node is nowhere before: it is listed so, or it isn't found and is nowhere after
abbrev pub nowhere_back : Step → Document → NodeId → Bool
nowhere_back S T n = is_among (nodes_loose S.loose) n || (not (finds_node S n) && is_nowhere (T.place n))

-- the node in whose row a cell is before
abbrev pub row_of_back : Step → Document → CellId → Option NodeId
row_of_back S T c = if is_among_cells (in_rows cells_made S.rows) c then None else T.row_of c

-- the schema entries before
abbrev pub schemas_by : Option SchemaStep → List SchemaEntry → List SchemaEntry
schemas_by None entries = entries
schemas_by (Some s) entries = take (length entries - length s.add) entries ++ s.cut

abbrev pub schemas_back : Step → Document → List SchemaEntry
schemas_back S T = schemas_by S.schema T.schemas

-- what a change can find is before the step as it is read off
pub record IsTakenBack (S : Step) (T A : Document) : Type 0 where
  pub rows : (n : NodeId) → row_back (content T n) (marks_of S.rows n) ≡ content A n
  pub held : (f : FieldId) → held_back S T f ≡ A.held f
  pub nodes : (n : NodeId) → node_back S T n ≡ A.nodes n
  pub nowhere : (n : NodeId) → IsSome (A.nodes n) → (nowhere_back S T n ≡ true) ↔ (A.place n ≡ Spot.Nowhere)
  pub row_of : (c : CellId) → row_of_back S T c ≡ A.row_of c
  pub schemas : schemas_back S T ≡ A.schemas

-- ## A change

-- the change finds before the step what is so, and makes what isn't there
pub record IsOverBack (S : Step) (T : Document) (C : Change) : Type 0 where
  pub rows : (r : RowMarks) → Has C.rows r → AreAsSeen (row_back (content T r.node) (marks_of S.rows r.node)) (cells_before (spread r.marks))
  pub held : (r : RegMark) → Has C.regs r → held_back S T r.field ≡ r.held
  pub loose : (l : Loose) → Has C.loose l → (nowhere_back S T l.node ≡ true) × IsSome (node_back S T l.node)
  pub new_nodes : (n : NodeId) → Has (nodes_new C.new) n → node_back S T n ≡ None
  pub new_cells : (c : CellId) → Has (in_rows cells_made C.rows) c → row_of_back S T c ≡ None
  pub base : IsTrue C.base ↔ HasBase (schemas_back S T) C.schema C.under
  pub new_schema : IfSome C.schema (λ _. AllByRecursion (λ (e : SchemaEntry). e.rev ≢ C.rev) (schemas_back S T))

-- the change is that of some intent that fits the document
abbrev pub IsOfAnIntent : Document → Change → Type 0
IsOfAnIntent A C = (N : Intent) × Fits A N × IsEmbedding A N C
