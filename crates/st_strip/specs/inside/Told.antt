-- What is left of a step behind a first part of it, as code tells it.
use Rattle.std.specs.Prelude.{◌≡◌, Bool, true, false, not, List, map, Option, Some, None, IfSome, IsSome, if◌then◌else◌}
use Rattle.std.specs.List.{filter_map}
use Rattle.std.specs.Option.{option_or}
use Rattle.st_ids.specs.Listing.{IsListing, item_of}
use Rattle.st_ids.specs.Order.{field_cmp, node_cmp, same_cell}
use Rattle.st_ids.specs.declared.names.CellId.{CellId}
use Rattle.st_ids.specs.declared.names.NodeId.{NodeId}
use Rattle.st_kind.specs.Named.{Nodes}
use Rattle.st_marks.specs.declared.changes.NewNode.{NewNode}
use Rattle.st_marks.specs.declared.marks.Loose.{Loose}
use Rattle.st_marks.specs.declared.marks.Mark.{Mark}
use Rattle.st_marks.specs.declared.marks.RegStep.{RegStep}
use Rattle.st_marks.specs.declared.marks.RowMarks.{RowMarks}
use Rattle.st_marks.specs.declared.places.Spot.{Spot}
use Rattle.st_marks.specs.declared.steps.Step.{Step}
use Rattle.st_marks.specs.Document.{Document}
use Rattle.st_marks.specs.Embedding.{is_among, is_nowhere}
use Rattle.st_marks.specs.Listings.{cells_made, is_among_cells, nodes_new, placed_before}
use Rattle.st_marks.specs.Row.{merge, spread}
use Rattle.st_rows.specs.Cells.{compose_row, invert_row}
use Rattle.st_listings.specs.Schemas.{schemas_in_turn}
use Rattle.st_steps.specs.WayBack.{schema_back}
use Rattle.st_steps.specs.inside.Back.{lists_node}
use Rattle.st_strip.specs.Rest.{rest_loose, settled_row}

-- ## Rows

-- whether a mark makes a cell
abbrev pub makes : CellId → Mark → Bool
makes c (Mark.Skip k) = false
makes c (Mark.Gap d) = false
makes c (Mark.Touch d n h) = false
makes c (Mark.Make d n b) = same_cell d c
makes c (Mark.Fill d n) = false

-- a mark of the whole step, where those cells are there already, and empty
abbrev pub settle : (CellId → Bool) → Mark → Mark
settle made (Mark.Skip k) = Mark.Skip k
settle made (Mark.Gap c) = Mark.Gap c
settle made (Mark.Touch c n h) = Mark.Touch c n h
settle made (Mark.Make c n b) = if made c then (if b then Mark.Fill c n else Mark.Gap c) else Mark.Make c n b
settle made (Mark.Fill c n) = Mark.Fill c n

-- the cells that marks make
abbrev pub made_in : List Mark → CellId → Bool
made_in ms c = is_among_cells (cells_made (spread ms)) c

-- a row that both list
abbrev pub marks_of_both : List Mark → List Mark → List Mark
marks_of_both s w = merge (compose_row (invert_row (spread s)) (settled_row (made_in s) (spread w)))

-- a row of the whole step, behind that of the first part
abbrev pub row_behind : Option RowMarks → RowMarks → RowMarks
row_behind None w = w
row_behind (Some s) w = record { node = w.node; marks = marks_of_both s.marks w.marks }

-- a row of the first part, back
abbrev pub row_back : RowMarks → RowMarks
row_back s = record { node = s.node; marks = merge (invert_row (spread s.marks)) }

-- ## Registers and new nodes

abbrev pub register_behind : Option RegStep → RegStep → RegStep
register_behind None w = w
register_behind (Some s) w = record { field = w.field; before = s.after; after = w.after }

abbrev pub register_back : RegStep → RegStep
register_back s = record { field = s.field; before = s.after; after = s.before }

-- a new node, unless it is one of some
abbrev pub unless_made : Nodes → NewNode → Option NewNode
unless_made made m = if made m.node then None else Some m

-- ## Loose nodes

-- whether a node is nowhere: as it is told, or else by whether it stood somewhere at first
abbrev pub nowhere_by : Option Spot → Bool → Bool
nowhere_by None stood = not stood
nowhere_by (Some p) stood = is_nowhere p

abbrev pub nowhere_told : (NodeId → Option Spot) → Nodes → Nodes
nowhere_told spots stood n = nowhere_by (spots n) (stood n)

-- what a step tells of nodes is so: whom it lists, whom it finds somewhere, and where it leaves them
pub record TellsNodes (D E : Document) (S : Step) (listed stood : Nodes) (spots : NodeId → Option Spot) : Type 0 where
  pub listed_so : (n : NodeId) → listed n ≡ lists_node S n
  pub stood_so : (n : NodeId) → stood n ≡ is_among (placed_before S.rows (map (λ (r : RegStep). r.before) S.regs)) n
  pub spots_so : (n : NodeId) → IfSome (spots n) (λ p. E.place n ≡ p)
  pub all_spots : (n : NodeId) → lists_node S n ≡ true → IsSome (spots n)

-- ## All of it

-- the rows and registers of the rest alone
pub record AreFieldsTold (S W G : Step) : Type 0 where
  pub rows : IsListing node_cmp (λ (r : RowMarks). r.node) G.rows (λ n. option_or (item_of node_cmp (λ (r : RowMarks). r.node) (map (λ (r : RowMarks). row_behind (item_of node_cmp (λ (q : RowMarks). q.node) S.rows r.node) r) W.rows) n) (item_of node_cmp (λ (r : RowMarks). r.node) (map row_back S.rows) n))
  pub regs : IsListing field_cmp (λ (r : RegStep). r.field) G.regs (λ f. option_or (item_of field_cmp (λ (r : RegStep). r.field) (map (λ (r : RegStep). register_behind (item_of field_cmp (λ (q : RegStep). q.field) S.regs r.field) r) W.regs) f) (item_of field_cmp (λ (r : RegStep). r.field) (map register_back S.regs) f))

-- all that is left of W behind S
pub record ToldRest (S W G : Step) (told between last : Nodes) : Type 0 where
  pub schema : G.schema ≡ schemas_in_turn (schema_back S.schema) W.schema
  pub new_nodes : G.new ≡ filter_map (unless_made (is_among (nodes_new S.new))) W.new
  pub fields : AreFieldsTold S W G
  pub loose : IsListing node_cmp (λ (l : Loose). l.node) G.loose (λ n. rest_loose (told n) (between n) (last n) n)
