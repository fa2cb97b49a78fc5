-- What is left of a step behind a first part of it, told name by name: back over the first part, and then as the whole step has it.
use Rattle.std.specs.Prelude.{◌≡◌, ◌||◌, ◌&&◌, Bool, true, false, not, List, map, Option, Some, None, if◌then◌else◌}
use Rattle.st_ids.specs.Listing.{IsListing, item_of}
use Rattle.st_ids.specs.Order.{field_cmp, node_cmp, same_node}
use Rattle.st_ids.specs.Root.{root}
use Rattle.st_ids.specs.declared.names.CellId.{CellId}
use Rattle.st_ids.specs.declared.names.FieldId.{FieldId}
use Rattle.st_ids.specs.declared.names.NodeId.{NodeId}
use Rattle.st_kind.specs.Named.{Nodes, either}
use Rattle.st_marks.specs.declared.changes.NewNode.{NewNode}
use Rattle.st_marks.specs.declared.marks.How.TheVariants.{Stay, Leave}
use Rattle.st_marks.specs.declared.marks.Loose.{Loose}
use Rattle.st_marks.specs.declared.marks.RegStep.{RegStep}
use Rattle.st_marks.specs.declared.marks.RowMarks.{RowMarks}
use Rattle.st_marks.specs.declared.steps.Step.{Step}
use Rattle.st_marks.specs.Back.{is_in}
use Rattle.st_marks.specs.Document.{Document}
use Rattle.st_marks.specs.Embedding.{is_nowhere}
use Rattle.st_marks.specs.Listings.{cells_made, is_among_cells}
use Rattle.st_marks.specs.Row.{CellMark, Counted, Gap, Touch, Make, Fill, merge, spread}
use Rattle.st_rows.specs.Cells.{compose_row, invert_row}
use Rattle.st_listings.specs.Schemas.{schemas_in_turn}
use Rattle.st_steps.specs.WayBack.{schema_back}

-- ## Rows

-- a cell of the whole step, where those that the first part makes are there already, and empty
abbrev pub settled_mark : (CellId → Bool) → CellMark → CellMark
settled_mark made Counted = Counted
settled_mark made (Gap c) = Gap c
settled_mark made (Touch c n h) = Touch c n h
settled_mark made (Make c n b) = if made c then (if b then Fill c n else Gap c) else Make c n b
settled_mark made (Fill c n) = Fill c n

abbrev pub settled_row : (CellId → Bool) → List CellMark → List CellMark
settled_row made ms = map (settled_mark made) ms

-- the cells that the marks of a row make
abbrev pub made_by : RowMarks → CellId → Bool
made_by r c = is_among_cells (cells_made (spread r.marks)) c

-- the row of a node: back, then on
abbrev pub rest_row : NodeId → Option RowMarks → Option RowMarks → Option RowMarks
rest_row n None None = None
rest_row n (Some s) None = Some (record { node = n; marks = merge (invert_row (spread s.marks)) })
rest_row n None (Some w) = Some w
rest_row n (Some s) (Some w) = Some (record { node = n; marks = merge (compose_row (invert_row (spread s.marks)) (settled_row (made_by s) (spread w.marks))) })

-- ## Registers and new nodes

-- a register: from where the first part leads to where the whole step leads
abbrev pub rest_register : FieldId → Option RegStep → Option RegStep → Option RegStep
rest_register f None None = None
rest_register f (Some s) None = Some (record { field = f; before = s.after; after = s.before })
rest_register f None (Some w) = Some w
rest_register f (Some s) (Some w) = Some (record { field = f; before = s.after; after = w.after })

-- a new node of the whole step, unless the first part makes it
abbrev pub rest_new : Option NewNode → Option NewNode → Option NewNode
rest_new (Some s) w = None
rest_new None w = w

-- ## Loose nodes

-- a node that is told, by whether it is nowhere between and whether it is nowhere at last
abbrev pub rest_loose : Bool → Bool → Bool → NodeId → Option Loose
rest_loose told between last n = if told && between && not (same_node n root) then Some (record { node = n; how = if last then Stay else Leave }) else None

-- ## All of it

-- G says of each name what is left of W behind S: `told` are the nodes that either lists, `between` and `last` those of them
-- that are nowhere where S leads and where W leads
pub record IsRestOf (S W G : Step) (told between last : Nodes) : Type 0 where
  pub schema : G.schema ≡ schemas_in_turn (schema_back S.schema) W.schema
  pub new_nodes : IsListing node_cmp (λ (m : NewNode). m.node) G.new (λ n. rest_new (item_of node_cmp (λ (m : NewNode). m.node) S.new n) (item_of node_cmp (λ (m : NewNode). m.node) W.new n))
  pub rows : IsListing node_cmp (λ (r : RowMarks). r.node) G.rows (λ n. rest_row n (item_of node_cmp (λ (r : RowMarks). r.node) S.rows n) (item_of node_cmp (λ (r : RowMarks). r.node) W.rows n))
  pub regs : IsListing field_cmp (λ (r : RegStep). r.field) G.regs (λ f. rest_register f (item_of field_cmp (λ (r : RegStep). r.field) S.regs f) (item_of field_cmp (λ (r : RegStep). r.field) W.regs f))
  pub loose : IsListing node_cmp (λ (l : Loose). l.node) G.loose (λ n. rest_loose (told n) (between n) (last n) n)

-- ## What is named

-- what the first part names, what is new at last, and what the whole step names
abbrev pub named_rest : Document → Document → Nodes → Nodes → Nodes
named_rest D F m k = either (λ n. m n || (is_in F n && not (is_in D n))) k

-- what the tables tell is so, but for the root
pub record TellsRest (D E F : Document) (m k told between last : Nodes) : Type 0 where
  pub told_so : (n : NodeId) → same_node n root ≡ false → told n ≡ named_rest D F m k n
  pub between_so : (n : NodeId) → same_node n root ≡ false → told n ≡ true → between n ≡ is_nowhere (E.place n)
  pub last_so : (n : NodeId) → same_node n root ≡ false → told n ≡ true → last n ≡ is_nowhere (F.place n)
