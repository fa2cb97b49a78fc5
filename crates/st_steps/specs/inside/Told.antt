-- What each of two steps in turn says of a name, told so that the two are one listing.
use Rattle.std.specs.Prelude.{◌≡◌, List, map, Option, Some, None, if◌then◌else◌}
use Rattle.std.specs.List.{filter_map}
use Rattle.std.specs.Option.{option_or}
use Rattle.st_ids.specs.Listing.{IsListing, item_of}
use Rattle.st_ids.specs.Order.{field_cmp, node_cmp}
use Rattle.st_ids.specs.declared.names.NodeId.{NodeId}
use Rattle.st_kind.specs.Named.{Nodes}
use Rattle.st_marks.specs.declared.changes.NewNode.{NewNode}
use Rattle.st_marks.specs.declared.marks.Loose.{Loose}
use Rattle.st_marks.specs.declared.marks.Mark.{Mark}
use Rattle.st_marks.specs.declared.marks.RegStep.{RegStep}
use Rattle.st_marks.specs.declared.marks.RowMarks.{RowMarks}
use Rattle.st_marks.specs.declared.places.Spot.{Spot}
use Rattle.st_marks.specs.declared.steps.Step.{Step}
use Rattle.st_marks.specs.Document.{Document}
use Rattle.st_marks.specs.Row.{merge, spread}
use Rattle.st_mention_laws.specs.Shown.{thin_step}
use Rattle.st_rows.specs.Cells.{compose_row}
use Rattle.st_listings.specs.Schemas.{schemas_in_turn}
use Rattle.st_trim.specs.Trimmed.{ListsStep}
use Rattle.st_steps.specs.Turned.{how_in_turn}

-- a row that both list
abbrev pub row_of_both : NodeId → List Mark → List Mark → RowMarks
row_of_both n s t = record { node = n; marks = merge (compose_row (spread s) (spread t)) }

-- a row of the second, behind that of the first
abbrev pub row_behind : Option RowMarks → RowMarks → RowMarks
row_behind None t = t
row_behind (Some s) t = row_of_both t.node s.marks t.marks

-- a register likewise
abbrev pub register_behind : Option RegStep → RegStep → RegStep
register_behind None t = t
register_behind (Some s) t = record { field = t.field; before = s.before; after = t.after }

-- a node that is nowhere before the first, by where it is told to be at last
abbrev pub loose_before : (NodeId → Option Spot) → Loose → Loose
loose_before spots l = record { node = l.node; how = how_in_turn l.how (spots l.node) }

-- a node that is nowhere before the second, unless the first knows it
abbrev pub loose_behind : Nodes → Nodes → Loose → Option Loose
loose_behind stood new l = if stood l.node then None else if new l.node then None else Some l

-- all that two steps in turn say, each name in two listings as one
pub record ToldInTurn (S T G : Step) (stood new : Nodes) (spots : NodeId → Option Spot) : Type 0 where
  pub schema : G.schema ≡ schemas_in_turn S.schema T.schema
  pub new_nodes : IsListing node_cmp (λ (m : NewNode). m.node) G.new (λ n. option_or (item_of node_cmp (λ (m : NewNode). m.node) S.new n) (item_of node_cmp (λ (m : NewNode). m.node) T.new n))
  pub rows : IsListing node_cmp (λ (r : RowMarks). r.node) G.rows (λ n. option_or (item_of node_cmp (λ (r : RowMarks). r.node) (map (λ (r : RowMarks). row_behind (item_of node_cmp (λ (q : RowMarks). q.node) S.rows r.node) r) T.rows) n) (item_of node_cmp (λ (r : RowMarks). r.node) S.rows n))
  pub regs : IsListing field_cmp (λ (r : RegStep). r.field) G.regs (λ f. option_or (item_of field_cmp (λ (r : RegStep). r.field) (map (λ (r : RegStep). register_behind (item_of field_cmp (λ (q : RegStep). q.field) S.regs r.field) r) T.regs) f) (item_of field_cmp (λ (r : RegStep). r.field) S.regs f))
  pub loose : IsListing node_cmp (λ (m : Loose). m.node) G.loose (λ n. option_or (item_of node_cmp (λ (m : Loose). m.node) (map (loose_before spots) S.loose) n) (item_of node_cmp (λ (m : Loose). m.node) (filter_map (loose_behind stood new) T.loose) n))

-- the rows and registers of two steps in turn alone
pub record AreFieldsTold (S T G : Step) : Type 0 where
  pub rows : IsListing node_cmp (λ (r : RowMarks). r.node) G.rows (λ n. option_or (item_of node_cmp (λ (r : RowMarks). r.node) (map (λ (r : RowMarks). row_behind (item_of node_cmp (λ (q : RowMarks). q.node) S.rows r.node) r) T.rows) n) (item_of node_cmp (λ (r : RowMarks). r.node) S.rows n))
  pub regs : IsListing field_cmp (λ (r : RegStep). r.field) G.regs (λ f. option_or (item_of field_cmp (λ (r : RegStep). r.field) (map (λ (r : RegStep). register_behind (item_of field_cmp (λ (q : RegStep). q.field) S.regs r.field) r) T.regs) f) (item_of field_cmp (λ (r : RegStep). r.field) S.regs f))

-- g lists the step from D to E with the nodes of K named, but for which empty cells it names
abbrev pub ShowsListed : Document → Document → Nodes → Step → Type 0
ShowsListed D E K g = (G : Step) × ListsStep D E K G × (thin_step g ≡ thin_step G)
