-- When a step finds in a document what is so, and the document to which it then leads.
use Rattle.std.specs.Prelude.{◌≡◌, ◌⊎◌, ◌++◌, ◌-◌, ◌||◌, ◌&&◌, Bool, not, List, [], ◌∷◌, map, length, take, Option, Some, None, IsSome, IfSome, option_map, if◌then◌else◌}
use Rattle.std.specs.List.{find, flat_map}
use Rattle.std.specs.Option.{option_map_or, option_or}
use Rattle.st_ids.specs.Listing.{Has, item_of}
use Rattle.st_ids.specs.Order.{field_cmp, node_cmp, same_node}
use Rattle.st_ids.specs.declared.names.CellId.{CellId}
use Rattle.st_ids.specs.declared.names.NodeId.{NodeId}
use Rattle.st_marks.specs.declared.changes.NewNode.{NewNode}
use Rattle.st_marks.specs.declared.intents.Owned.{Owned}
use Rattle.st_marks.specs.declared.marks.Loose.{Loose}
use Rattle.st_marks.specs.declared.marks.RegStep.{RegStep}
use Rattle.st_marks.specs.declared.marks.RowMarks.{RowMarks}
use Rattle.st_marks.specs.declared.places.Spot.{Spot}
use Rattle.st_marks.specs.declared.schemas.SchemaEntry.{SchemaEntry}
use Rattle.st_marks.specs.declared.schemas.SchemaStep.{SchemaStep}
use Rattle.st_marks.specs.declared.steps.Step.{Step}
use Rattle.st_marks.specs.Document.{CanBeInEffect, Document, NodeType, content, last_of, owned_cell, revs}
use Rattle.st_marks.specs.Embedding.{is_among}
use Rattle.st_marks.specs.Listings.{cells_before, cells_made, is_among_cells, marks_of, nodes_new}
use Rattle.st_marks.specs.Row.{CellMark, Counted, Gap, Touch, Make, Fill, spread}
use Rattle.st_normal.specs.Rules.{entries_of_step, fields_of, hole_owners, in_rows, put_over}
use Rattle.st_normal_laws.specs.Laid.{Stand}
use Rattle.st_puts.specs.Meant.{leaving_nodes}
use Rattle.st_puts.specs.Seen.{AreAsSeen}

-- ## A step over a document

-- the entries end with those that go, behind the one at which the step goes on; and with those that come they can be in effect
abbrev pub EndsWithCut : List SchemaEntry → SchemaStep → Type 0
EndsWithCut entries s = (front : List SchemaEntry)
    × (entries ≡ front ++ s.cut) × (last_of (revs front) ≡ Some s.on) × CanBeInEffect (front ++ s.add)

-- the step finds what is so in the document, and makes what isn't there
pub record IsOverStep (D : Document) (S : Step) : Type 0 where
  pub rows : (r : RowMarks) → Has S.rows r
      → AreAsSeen (content D r.node) (cells_before (spread r.marks))
  pub held : (r : RegStep) → Has S.regs r → D.held r.field ≡ r.before
  pub loose : (l : Loose) → Has S.loose l
      → (D.place l.node ≡ Spot.Nowhere) × IsSome (D.nodes l.node)
  pub new_nodes : (n : NodeId) → Has (nodes_new S.new) n → D.nodes n ≡ None
  pub new_cells : (c : CellId) → Has (in_rows cells_made S.rows) c → D.row_of c ≡ None
  -- who owns an empty cell that is made is new or there
  pub owners : (n : NodeId) → Has (in_rows hole_owners S.rows) n
      → Has (nodes_new S.new) n ⊎ IsSome (D.nodes n)
  pub schema : IfSome S.schema (EndsWithCut D.schemas)

-- whether a step lists a node as mentioned: it leaves, or is old and has a listed field
abbrev pub mentions_over : Step → NodeId → Bool
mentions_over S n = is_among (leaving_nodes (entries_of_step S).found) n
    || (is_among (fields_of (entries_of_step S)) n && not (is_among (nodes_new S.new) n))

-- ## The document after it

-- a row's cells, and those that marks make among them
abbrev pub row_later : List Owned → List CellMark → List Owned
row_later os [] = os
row_later os (Make c n b ∷ ms) = owned_cell c n ∷ row_later os ms
row_later [] (Counted ∷ ms) = row_later [] ms
row_later (o ∷ os) (Counted ∷ ms) = o ∷ row_later os ms
row_later [] (Gap c ∷ ms) = row_later [] ms
row_later (o ∷ os) (Gap c ∷ ms) = o ∷ row_later os ms
row_later [] (Touch c n h ∷ ms) = row_later [] ms
row_later (o ∷ os) (Touch c n h ∷ ms) = o ∷ row_later os ms
row_later [] (Fill c n ∷ ms) = row_later [] ms
row_later (o ∷ os) (Fill c n ∷ ms) = o ∷ row_later os ms

-- a node at its place
abbrev pub stand_at : Spot → NodeId → Stand
stand_at s n = record { node = n; spot = s }

-- whom a mark puts into its cell
abbrev pub stand_by : NodeId → CellMark → List Stand
stand_by r Counted = []
stand_by r (Gap c) = []
stand_by r (Touch c n h) = []
stand_by r (Make c n b) = if b then stand_at (Spot.Row r c) n ∷ [] else []
stand_by r (Fill c n) = stand_at (Spot.Row r c) n ∷ []

-- whom a row's marks put into its cells
abbrev pub stands_by : RowMarks → List Stand
stands_by r = flat_map (stand_by r.node) (spread r.marks)

-- whom a register takes in
abbrev pub stands_over : RegStep → List Stand
stands_over r = map (stand_at (Spot.Register r.field)) (put_over r)

-- all that the step puts somewhere
abbrev pub stands_put : Step → List Stand
stands_put S = flat_map stands_by S.rows ++ flat_map stands_over S.regs

-- what a new node is
abbrev pub new_type_over : Step → NodeId → Option NodeType
new_type_over S n = option_map
    (λ (m : NewNode). let t : NodeType = record { ty = m.ty; leaf = m.leaf } in t)
    (item_of node_cmp (λ (m : NewNode). m.node) S.new n)

-- in whose row the step makes a cell
abbrev pub row_made : Step → CellId → Option NodeId
row_made S c = option_map (λ (r : RowMarks). r.node)
    (find (λ (r : RowMarks). is_among_cells (cells_made (spread r.marks)) c) S.rows)

-- where a node stands that isn't put: nowhere if it leaves, else where it stood
abbrev pub unless_leaves : Step → NodeId → Spot → Spot
unless_leaves S n s =
    if is_among (leaving_nodes (entries_of_step S).found) n then Spot.Nowhere else s

-- the entries without those that go, and those that come behind them
abbrev pub schemas_later : Option SchemaStep → List SchemaEntry → List SchemaEntry
schemas_later None entries = entries
schemas_later (Some s) entries = take (length entries - length s.cut) entries ++ s.add

-- the document to which a step leads from one over which it is
abbrev pub later : Document → Step → Document
later D S = record {
  nodes = λ n. option_or (new_type_over S n) (D.nodes n);
  rows = λ n. row_later (D.rows n) (marks_of S.rows n);
  row_of = λ c. option_or (row_made S c) (D.row_of c);
  place = λ n. option_map_or (λ (s : Stand). s.spot)
      (find (λ (s : Stand). same_node s.node n) (stands_put S)) (unless_leaves S n (D.place n));
  held = λ f. option_map_or (λ (r : RegStep). r.after)
      (item_of field_cmp (λ (r : RegStep). r.field) S.regs f) (D.held f);
  schemas = schemas_later S.schema D.schemas;
}
