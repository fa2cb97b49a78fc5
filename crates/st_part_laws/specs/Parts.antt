-- The part of a document that some of its nodes are, as those that were made under some schemas.
use Rattle.std.specs.Prelude.{◌≡◌, Bool, true, ◌&&◌, List, [], filter, Some, None, option_and_then, if◌then◌else◌}
use Rattle.std.specs.List.{list_any}
use Rattle.st_ids.specs.Listing.{Has}
use Rattle.st_ids.specs.Order.{same_cell, same_rev}
use Rattle.st_ids.specs.declared.names.CellId.{CellId}
use Rattle.st_ids.specs.declared.names.FieldId.{FieldId}
use Rattle.st_ids.specs.declared.names.NodeId.{NodeId}
use Rattle.st_ids.specs.declared.names.Rev.{Rev}
use Rattle.st_marks.specs.declared.intents.Group.{Group}
use Rattle.st_marks.specs.declared.intents.Intent.{Intent}
use Rattle.st_marks.specs.declared.intents.Owned.{Owned}
use Rattle.st_marks.specs.declared.intents.To.{To}
use Rattle.st_marks.specs.declared.places.Spot.{Spot}
use Rattle.st_marks.specs.CarryOut.{spot_of, with_names}
use Rattle.st_marks.specs.Document.{Document, above, node_of, revs}
use Rattle.st_marks.specs.Intent.{is_new, put_of, group_cells}

-- ## The part that passes a test

-- the cells of a row whose owners pass a test
abbrev pub cells_by : (NodeId → Bool) → List Owned → List Owned
cells_by p os = filter (λ (o : Owned). p o.node) os

-- whether a row has a cell
abbrev pub has_cell : List Owned → CellId → Bool
has_cell os c = list_any (λ (o : Owned). same_cell o.cell c) os

-- the nodes of a document that pass a test, with what stands in what among them; the schema entries stay
abbrev pub part_by : (NodeId → Bool) → Document → Document
part_by p D = record D {
  nodes = λ n. if p n then D.nodes n else None;
  rows = λ n. if p n then cells_by p (D.rows n) else [];
  row_of = λ c. option_and_then (λ n. if p n && has_cell (cells_by p (D.rows n)) c then Some n else None) (D.row_of c);
  place = λ m. if p m then D.place m else Spot.Nowhere;
  held = λ f. if p f.node then D.held f else None;
}

-- a node that stands somewhere passes the test exactly where the node does in whose field it stands
abbrev pub IsClosedBy : (NodeId → Bool) → Document → Type 0
IsClosedBy p D = (m n : NodeId) → above D m ≡ Some n → p m ≡ p n

-- what an intent names in a document passes the test: the nodes that it makes, puts or needs, the nodes in whose rows it
-- makes cells or into whose fields it puts nodes, those whose fields it clears, and the owners of the cells that it makes
-- and of those after which it makes them
pub record NamesWithin (p : NodeId → Bool) (D : Document) (N : Intent) : Type 0 where
  pub new : (n : NodeId) → is_new N n ≡ true → p n ≡ true
  pub groups : (g : Group) → Has N.groups g → p g.node ≡ true
  pub owners : (o : Owned) → Has (group_cells N) o → p o.node ≡ true
  pub anchors : (g : Group) (n : NodeId) (o : Owned) → Has N.groups g → g.after ≡ Some o.cell → Has (D.rows n) o → p o.node ≡ true
  pub puts : (m : NodeId) (to : To) → put_of N m ≡ Some to → p m ≡ true
  pub targets : (m n : NodeId) (to : To) → put_of N m ≡ Some to → node_of (spot_of (with_names D N).row_of to) ≡ Some n → p n ≡ true
  pub clears : (f : FieldId) → Has N.clear f → p f.node ≡ true
  pub needs : (n : NodeId) → Has N.need n → p n ≡ true

-- ## The part of some schemas

-- whether a node was made under one of some schemas; `under` tells for a commit's revision under which schema it was made
abbrev pub is_of_schemas : (Rev → Rev) → List Rev → NodeId → Bool
is_of_schemas under rs n = list_any (λ r. same_rev r (under n.0.rev)) rs

-- the part of a document that was made under one of some schemas
abbrev pub part_of_schemas : (Rev → Rev) → List Rev → Document → Document
part_of_schemas under rs D = part_by (is_of_schemas under rs) D

-- the part that was made under a schema in effect
abbrev pub part_in_effect : (Rev → Rev) → Document → Document
part_in_effect under D = part_of_schemas under (revs D.schemas) D

-- a node that stands somewhere was made under a schema in effect exactly where the node was in whose field it stands
abbrev pub IsClosedInEffect : (Rev → Rev) → Document → Type 0
IsClosedInEffect under D = IsClosedBy (is_of_schemas under (revs D.schemas)) D
