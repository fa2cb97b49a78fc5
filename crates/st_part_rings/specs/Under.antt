-- Nodes that stand in rows and registers of others.
use Rattle.std.specs.Prelude.{◌≡◌, Some}
use Rattle.st_ids.specs.declared.names.NodeId.{NodeId}
use Rattle.st_marks.specs.declared.places.Spot.{Spot}
use Rattle.st_marks.specs.Agree.{LeadsUp}
use Rattle.st_marks.specs.Document.{node_of}

-- from some node, the places lead up to itself
abbrev pub HasRing : (NodeId → Spot → Type 0) → Type 0
HasRing At = (n : NodeId) × LeadsUp At n n

-- no node stands in two others
abbrev pub IsUnderOne : (NodeId → Spot → Type 0) → Type 0
IsUnderOne At = (n p q : NodeId) (s t : Spot) → At n s → At n t → node_of s ≡ Some p → node_of t ≡ Some q → p ≡ q
