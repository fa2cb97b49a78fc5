-- Rings: from a node, steps up lead back to it.
use Rattle.std.specs.Prelude.{◌≡◌, List, Option, Some, IsSome}
use Rattle.st_ids.specs.Listing.{Has}
use Rattle.st_ids.specs.declared.names.NodeId.{NodeId}
use Rattle.st_marks.specs.Document.{climb, ClimbsToAnEnd, Reaches}

-- some node is above itself
abbrev pub HasRing : (NodeId → Option NodeId) → Type 0
HasRing up = (n : NodeId) × Reaches up n n

-- each node with another above it is in the list
abbrev pub AreListed : (NodeId → Option NodeId) → List NodeId → Type 0
AreListed up nodes = (n p : NodeId) → up n ≡ Some p → Has nodes n

-- what was met on climbs that ended, each node with the one where the climb began that met it first
pub record HaveEnded (up met : NodeId → Option NodeId) : Type 0 where
  pub ends : (n s : NodeId) → met n ≡ Some s → ClimbsToAnEnd up n
  pub begun : (n s : NodeId) → met n ≡ Some s → IsSome (met s)
