-- Links from nodes to those in which they stand.
use Rattle.std.specs.Prelude.{◌≡◌, ◌&&◌, ◌++◌, ◌↔◌, Bool, true, false, IsTrue, List, [], ◌∷◌, Option, Some, None, is_some, if◌then◌else◌}
use Rattle.std.specs.List.{flat_map}
use Rattle.st_ids.specs.Listing.{Has}
use Rattle.st_ids.specs.declared.names.NodeId.{NodeId}
use Rattle.st_marks.specs.Document.{node_of}
use Rattle.st_marks.specs.declared.places.Spot.{Spot}
use Rattle.st_normal.specs.inside.Ring.{HasRing}
use Rattle.st_turn_places.specs.declared.places.Placed.{Placed}
use Rattle.st_part_rings.specs.declared.links.Link.{Link}

-- a node that stands in another
abbrev pub link : NodeId → NodeId → Link
link n p = record { node = n; up = p }

abbrev pub linked_to : NodeId → Option NodeId → List Link
linked_to n None = []
linked_to n (Some p) = link n p ∷ []

-- the link of a node at its place, if it stands in another
abbrev pub link_of : Placed → List Link
link_of p = linked_to p.node (node_of p.spot)

-- the link where both nodes are made
abbrev pub made_to : (NodeId → Bool) → NodeId → Option NodeId → List Link
made_to made n None = []
made_to made n (Some p) = if made n && made p then link n p ∷ [] else []

-- the link of a made node in another, unless the node is among those that were taken elsewhere
abbrev pub kept_link : (NodeId → Bool) → (NodeId → Bool) → Placed → List Link
kept_link made taken p = if taken p.node then [] else made_to made p.node (node_of p.spot)

-- the links of made nodes where two lists together have them: where the second does, or else the first
abbrev pub joint_links : (NodeId → Bool) → (NodeId → Bool) → List Placed → List Placed → List Link
joint_links made taken first second = flat_map (kept_link made taken) first ++ flat_map (kept_link made (λ n. false)) second

-- a table by which each linked node has one of its links
pub record IsUp (links : List Link) (up : NodeId → Option NodeId) : Type 0 where
  pub linked : (n p : NodeId) → up n ≡ Some p → Has links (link n p)
  pub all : (l : Link) → Has links l → is_some (up l.node) ≡ true

-- the links are those of nodes at their places
abbrev pub AreLinks : List Link → (NodeId → Spot → Type 0) → Type 0
AreLinks links At = (n p : NodeId) → Has links (link n p) ↔ ((s : Spot) × At n s × (node_of s ≡ Some p))

-- what tells whether links lead up in a ring, where each linked node is followed by one of its links
abbrev pub TellsRing : List Link → Bool → Type 0
TellsRing links b = (up : NodeId → Option NodeId) × IsUp links up × (IsTrue b ↔ HasRing up)
