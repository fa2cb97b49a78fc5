-- Sets of nodes that have all nodes above theirs.
use Rattle.std.specs.Prelude.{◌≡◌, ◌↔◌, ◌⊎◌, ℕ, Bool, true, List, Option, Some, IsSome}
use Rattle.st_ids.specs.Listing.{Has}
use Rattle.st_ids.specs.declared.names.NodeId.{NodeId}
use Rattle.st_marks.specs.Document.{Document, above, climb}

-- steps up, or none, lead from one node to another
abbrev pub LeadsUp : (NodeId → Option NodeId) → NodeId → NodeId → Type 0
LeadsUp up n m = (k : ℕ) × (climb up k n ≡ Some m)

-- a set has the node above each of its nodes
abbrev pub IsClosed : (NodeId → Option NodeId) → (NodeId → Bool) → Type 0
IsClosed up has = (n m : NodeId) → has n ≡ true → up n ≡ Some m → has m ≡ true

-- a set gained a node and all above it
abbrev pub GainsUpwards : (NodeId → Option NodeId) → (NodeId → Bool) → NodeId → (NodeId → Bool) → Type 0
GainsUpwards up old node new = (m : NodeId) → (new m ≡ true) ↔ ((old m ≡ true) ⊎ LeadsUp up node m)

-- a set gained a node and all above it, if the document has the node
abbrev pub GainsKnown : Document → (NodeId → Bool) → NodeId → (NodeId → Bool) → Type 0
GainsKnown D old node new = (m : NodeId) → (new m ≡ true) ↔ ((old m ≡ true) ⊎ (IsSome (D.nodes node) × LeadsUp (above D) node m))

-- the names that a document has, and all nodes above them
abbrev pub AreAbove : Document → List NodeId → (NodeId → Bool) → Type 0
AreAbove D names has = (m : NodeId) → (has m ≡ true) ↔ ((s : NodeId) × Has names s × IsSome (D.nodes s) × LeadsUp (above D) s m)
