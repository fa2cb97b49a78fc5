-- The nodes directly beneath a node that it shows, and what they show.
use Rattle.std.specs.Prelude.{◌≡◌, ℕ, Bool, true, false, List, [], ◌∷◌, Option, Some, None, map, unwrap_or}
use Rattle.std.specs.BTreeMap.{get}
use Rattle.serde_json.specs.View.{view}
use Rattle.serde_json.specs.declared.value.Value.{Value}
use Rattle.st_ids.specs.Listing.{AreDistinct, Has}
use Rattle.st_ids.specs.Order.{node_cmp}
use Rattle.st_ids.specs.declared.names.Leaf.{Leaf}
use Rattle.st_ids.specs.declared.names.NodeId.{NodeId}
use Rattle.st_marks.specs.Document.{Document, above}
use Rattle.st_marks.specs.LiveTree.{Shows, owners_shown}
use Rattle.st_doc.specs.declared.seats.Seat.{Seat}
use Rattle.st_doc.specs.inside.LiveText.{seats_of}
use Rattle.st_forest.specs.declared.forest.Forest.{Forest}
use Rattle.st_forest.specs.declared.forest.Seated.{Seated}

-- the items of a node's row, or the occupants of its registers, by whether its type has a row
abbrev pub inner : Forest → NodeId → Bool → List NodeId
inner F n true = owners_shown (unwrap_or (get node_cmp F.rows n) [])
inner F n false = map (λ (s : Seat). s.node) (seats_of n F.held.entries)

-- none, if it is a leaf
abbrev pub unless_leaf : Option Leaf → List NodeId → List NodeId
unless_leaf None ns = ns
unless_leaf (Some v) ns = []

-- nor if it isn't there
abbrev pub beneath_seated : (List ℕ → Bool) → Forest → NodeId → Option Seated → List NodeId
beneath_seated is_array F n None = []
beneath_seated is_array F n (Some s) = unless_leaf s.node.leaf (inner F n (is_array s.node.ty))

abbrev pub beneath : (List ℕ → Bool) → Forest → NodeId → List NodeId
beneath is_array F n = beneath_seated is_array F n (get node_cmp F.nodes n)

-- some nodes stand directly beneath a node, each once among them
pub record AreBeneath (D : Document) (n : NodeId) (ms : List NodeId) : Type 0 where
  pub once : AreDistinct (λ (m : NodeId). m) ms
  pub up : (m : NodeId) → Has ms m → above D m ≡ Some n

-- the values are what the nodes show, in order
abbrev pub AreShown : (List ℕ → Bool) → Document → List NodeId → List Value → Type 0
AreShown is_array D [] [] = Unit {0}
AreShown is_array D [] (v ∷ vs) = ⊥
AreShown is_array D (n ∷ ns) [] = ⊥
AreShown is_array D (n ∷ ns) (v ∷ vs) = Shows is_array D n (view v) × AreShown is_array D ns vs
