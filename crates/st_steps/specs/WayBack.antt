-- The way back over a step, told name by name.
use Rattle.std.specs.Prelude.{◌≡◌, ◌||◌, ◌&&◌, Bool, true, false, not, [], map, Option, Some, None, option_map, IfSome, IsSome, if◌then◌else◌}
use Rattle.st_ids.specs.Listing.{IsListing, item_of}
use Rattle.st_ids.specs.Order.{field_cmp, node_cmp, same_node}
use Rattle.st_ids.specs.Root.{root}
use Rattle.st_ids.specs.declared.names.NodeId.{NodeId}
use Rattle.st_kind.specs.Named.{Nodes}
use Rattle.st_marks.specs.declared.marks.How.TheVariants.{Stay, Leave}
use Rattle.st_marks.specs.declared.marks.Loose.{Loose}
use Rattle.st_marks.specs.declared.marks.RegStep.{RegStep}
use Rattle.st_marks.specs.declared.marks.RowMarks.{RowMarks}
use Rattle.st_marks.specs.declared.places.Spot.{Spot}
use Rattle.st_marks.specs.declared.schemas.SchemaStep.{SchemaStep}
use Rattle.st_marks.specs.declared.steps.Step.{Step}
use Rattle.st_marks.specs.Back.{is_in}
use Rattle.st_marks.specs.Document.{Document}
use Rattle.st_marks.specs.Embedding.{is_nowhere}
use Rattle.st_marks.specs.Row.{CellMark, Counted, Gap, Touch, Make, Fill, merge, spread}
use Rattle.st_rows.specs.Cells.{invert_row}

-- ## Rows

-- a cell of the row of a node that the step makes: who is new too stays, others leave
abbrev pub made_back : Nodes → CellMark → CellMark
made_back new (Make c n true) = if new n then Touch c n Stay else Touch c n Leave
made_back new (Make c n false) = Gap c
made_back new Counted = Counted
made_back new (Gap c) = Gap c
made_back new (Touch c n h) = Touch c n h
made_back new (Fill c n) = Fill c n

abbrev pub row_back : Nodes → RowMarks → RowMarks
row_back new r = record { node = r.node; marks = merge (if new r.node then map (made_back new) (spread r.marks) else invert_row (spread r.marks)) }

-- ## Registers

-- a node, if it is new
abbrev pub only_new : Nodes → Option NodeId → Option NodeId
only_new new None = None
only_new new (Some n) = if new n then Some n else None

abbrev pub register_back : Nodes → RegStep → RegStep
register_back new r = record { field = r.field; before = r.after; after = if new r.field.node then only_new new r.after else r.before }

-- ## Loose nodes and schemas

-- a node that the step leaves nowhere: it goes back where it stood
abbrev pub loose_back : Bool → Option Spot → NodeId → Option Loose
loose_back stood None n = None
loose_back stood (Some s) n = if is_nowhere s && not (same_node n root) then Some (record { node = n; how = if stood then Leave else Stay }) else None

abbrev pub schema_back : Option SchemaStep → Option SchemaStep
schema_back o = option_map (λ (s : SchemaStep). record { on = s.on; cut = s.add; add = s.cut }) o

-- ## All of it

-- G says of each name what the way back says: `new` are the nodes that the step makes, `stood` those that it finds somewhere,
-- and `spots` is where it says that nodes stand after it
pub record IsBackOf (S G : Step) (new stood : Nodes) (spots : NodeId → Option Spot) : Type 0 where
  pub schema : G.schema ≡ schema_back S.schema
  pub new_nodes : G.new ≡ []
  pub rows : IsListing node_cmp (λ (r : RowMarks). r.node) G.rows (λ n. option_map (row_back new) (item_of node_cmp (λ (r : RowMarks). r.node) S.rows n))
  pub regs : IsListing field_cmp (λ (r : RegStep). r.field) G.regs (λ f. option_map (register_back new) (item_of field_cmp (λ (r : RegStep). r.field) S.regs f))
  pub loose : IsListing node_cmp (λ (l : Loose). l.node) G.loose (λ n. loose_back (stood n) (spots n) n)

-- what the way back names: what the step names, and what it makes
abbrev pub named_back_of : Document → Document → Nodes → Nodes
named_back_of D E m n = m n || (is_in E n && not (is_in D n))

-- what the tables tell is so
pub record TellsBack (D E : Document) (m new stood : Nodes) (spots : NodeId → Option Spot) : Type 0 where
  pub new_so : (n : NodeId) → new n ≡ (is_in E n && not (is_in D n))
  pub stood_so : (n : NodeId) → stood n ≡ true → is_nowhere (D.place n) ≡ false
  pub all_stood : (n : NodeId) → m n ≡ true → is_nowhere (D.place n) ≡ false → stood n ≡ true
  pub spots_so : (n : NodeId) → IfSome (spots n) (λ s. (E.place n ≡ s) × (named_back_of D E m n ≡ true))
  pub all_spots : (n : NodeId) → named_back_of D E m n ≡ true → same_node n root ≡ false → IsSome (spots n)
