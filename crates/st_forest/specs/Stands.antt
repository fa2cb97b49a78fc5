-- What a forest stands for.
use Rattle.std.specs.Prelude.{◌≡◌, [], option_map, unwrap_or}
use Rattle.std.specs.BTreeMap.{get}
use Rattle.st_ids.specs.Order.{field_cmp, node_cmp}
use Rattle.st_ids.specs.declared.names.FieldId.{FieldId}
use Rattle.st_ids.specs.declared.names.NodeId.{NodeId}
use Rattle.st_marks.specs.declared.changes.NewNode.{NewNode}
use Rattle.st_marks.specs.declared.places.Spot.{Spot}
use Rattle.st_marks.specs.Document.{Document, NodeType, content}
use Rattle.st_forest.specs.declared.forest.Forest.{Forest}
use Rattle.st_forest.specs.declared.forest.Seated.{Seated}

-- a node of that type, under its name
abbrev pub named : NodeId → NodeType → NewNode
named n t = record { node = n; ty = t.ty; leaf = t.leaf }

-- each part of the document, name by name; a node without a row has no cells, and one that isn't there stands nowhere
pub record StandsFor (F : Forest) (D : Document) : Type 0 where
  pub nodes : (n : NodeId) → option_map (λ (s : Seated). s.node) (get node_cmp F.nodes n) ≡ option_map (named n) (D.nodes n)
  pub places : (n : NodeId) → unwrap_or (option_map (λ (s : Seated). s.place) (get node_cmp F.nodes n)) Spot.Nowhere ≡ D.place n
  pub rows : (n : NodeId) → unwrap_or (get node_cmp F.rows n) [] ≡ content D n
  pub held : (f : FieldId) → get field_cmp F.held f ≡ D.held f
  pub schemas : F.schemas ≡ D.schemas
