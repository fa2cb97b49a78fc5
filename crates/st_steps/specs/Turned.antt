-- Two steps in turn, told together name by name.
use Rattle.std.specs.Prelude.{◌≡◌, ◌||◌, ◌&&◌, Bool, true, false, Option, Some, None, IfSome, IsSome, if◌then◌else◌}
use Rattle.std.specs.Option.{option_or}
use Rattle.st_ids.specs.Listing.{IsListing, item_of}
use Rattle.st_ids.specs.Order.{field_cmp, node_cmp, same_node}
use Rattle.st_ids.specs.Root.{root}
use Rattle.st_ids.specs.declared.names.FieldId.{FieldId}
use Rattle.st_ids.specs.declared.names.NodeId.{NodeId}
use Rattle.st_kind.specs.Named.{Nodes, either}
use Rattle.st_marks.specs.declared.changes.NewNode.{NewNode}
use Rattle.st_marks.specs.declared.marks.How.{How}
use Rattle.st_marks.specs.declared.marks.How.TheVariants.{Stay, Leave}
use Rattle.st_marks.specs.declared.marks.Loose.{Loose}
use Rattle.st_marks.specs.declared.marks.RegStep.{RegStep}
use Rattle.st_marks.specs.declared.marks.RowMarks.{RowMarks}
use Rattle.st_marks.specs.declared.places.Spot.{Spot}
use Rattle.st_marks.specs.declared.steps.Step.{Step}
use Rattle.st_marks.specs.Back.{is_in}
use Rattle.st_marks.specs.Document.{Document}
use Rattle.st_marks.specs.Embedding.{is_nowhere}
use Rattle.st_marks.specs.Row.{merge, spread}
use Rattle.st_rows.specs.Cells.{compose_row}
use Rattle.st_listings.specs.Schemas.{schemas_in_turn}

-- ## One name at a time

-- the row of a node: what both say together, or what the one says that lists it
abbrev pub row_in_turn : NodeId → Option RowMarks → Option RowMarks → Option RowMarks
row_in_turn n None None = None
row_in_turn n (Some s) None = Some s
row_in_turn n None (Some t) = Some t
row_in_turn n (Some s) (Some t) = Some (record { node = n; marks = merge (compose_row (spread s.marks) (spread t.marks)) })

-- a register likewise
abbrev pub register_in_turn : FieldId → Option RegStep → Option RegStep → Option RegStep
register_in_turn f None None = None
register_in_turn f (Some s) None = Some s
register_in_turn f None (Some t) = Some t
register_in_turn f (Some s) (Some t) = Some (record { field = f; before = s.before; after = t.after })

-- what becomes of a node that was nowhere, by where it is told to be at last
abbrev pub how_in_turn : How → Option Spot → How
how_in_turn h None = h
how_in_turn h (Some s) = if is_nowhere s then Stay else Leave

-- a node that is nowhere: as the first lists it; or as the second does, unless it stood somewhere or is new
abbrev pub loose_in_turn : Bool → Option Spot → NodeId → Option Loose → Option Loose → Option Loose
loose_in_turn known spot n None None = None
loose_in_turn known spot n (Some l) t = Some (record { node = n; how = how_in_turn l.how spot })
loose_in_turn known spot n None (Some l) = if known then None else Some l

-- ## All of it

-- G says of each name what two steps say together: `stood` are the nodes that the first finds somewhere, `new` those that it
-- makes, and `spots` is where the second says that nodes stand after it
pub record IsInTurn (S T G : Step) (stood new : Nodes) (spots : NodeId → Option Spot) : Type 0 where
  pub schema : G.schema ≡ schemas_in_turn S.schema T.schema
  pub new_nodes : IsListing node_cmp (λ (m : NewNode). m.node) G.new (λ n. option_or (item_of node_cmp (λ (m : NewNode). m.node) S.new n) (item_of node_cmp (λ (m : NewNode). m.node) T.new n))
  pub rows : IsListing node_cmp (λ (r : RowMarks). r.node) G.rows (λ n. row_in_turn n (item_of node_cmp (λ (r : RowMarks). r.node) S.rows n) (item_of node_cmp (λ (r : RowMarks). r.node) T.rows n))
  pub regs : IsListing field_cmp (λ (r : RegStep). r.field) G.regs (λ f. register_in_turn f (item_of field_cmp (λ (r : RegStep). r.field) S.regs f) (item_of field_cmp (λ (r : RegStep). r.field) T.regs f))
  pub loose : IsListing node_cmp (λ (l : Loose). l.node) G.loose (λ n. loose_in_turn (stood n || new n) (spots n) n (item_of node_cmp (λ (l : Loose). l.node) S.loose n) (item_of node_cmp (λ (l : Loose). l.node) T.loose n))

-- what the tables tell is so
pub record TellsTurn (D E F : Document) (m k stood new : Nodes) (spots : NodeId → Option Spot) : Type 0 where
  -- who stood somewhere, and who of those that the first mentions did
  pub stood_so : (n : NodeId) → stood n ≡ true → is_nowhere (D.place n) ≡ false
  pub all_stood : (n : NodeId) → m n ≡ true → is_nowhere (D.place n) ≡ false → stood n ≡ true
  -- who is new
  pub new_so : (n : NodeId) → new n ≡ true → is_in D n ≡ false
  pub all_new : (n : NodeId) → is_in D n ≡ false → IsSome (E.nodes n) → new n ≡ true
  -- where the nodes stand that the second mentions, but for the root
  pub then_so : (n : NodeId) → IfSome (spots n) (λ s. F.place n ≡ s)
  pub all_then : (n : NodeId) → k n ≡ true → same_node n root ≡ false → IsSome (spots n)

-- ## What is named

-- what the first names, and what the second names and was there before
abbrev pub named_in_turn : Document → Nodes → Nodes → Nodes
named_in_turn D m k = either m (λ n. k n && is_in D n)
