-- Sets of nodes that have all nodes above theirs.
use Rattle.std.specs.Prelude.{◌≡◌, ◌↔◌, ◌⊎◌, ℕ, Bool, true, Option, Some}
use Rattle.st_ids.specs.declared.names.NodeId.{NodeId}
use Rattle.st_marks.specs.Document.{climb}

-- steps up, or none, lead from one node to another
abbrev pub LeadsUp : (NodeId → Option NodeId) → NodeId → NodeId → Type 0
LeadsUp up n m = (k : ℕ) × (climb up k n ≡ Some m)

-- a set has the node above each of its nodes
abbrev pub IsClosed : (NodeId → Option NodeId) → (NodeId → Bool) → Type 0
IsClosed up has = (n m : NodeId) → has n ≡ true → up n ≡ Some m → has m ≡ true

-- a set gained a node and all above it
abbrev pub GainsUpwards : (NodeId → Option NodeId) → (NodeId → Bool) → NodeId → (NodeId → Bool) → Type 0
GainsUpwards up old node new = (m : NodeId) → (new m ≡ true) ↔ ((old m ≡ true) ⊎ LeadsUp up node m)

-- the nodes of a set, and all nodes above them
abbrev pub AreUpwards : (NodeId → Option NodeId) → (NodeId → Bool) → (NodeId → Bool) → Type 0
AreUpwards up begins has = (n : NodeId) → (has n ≡ true) ↔ ((s : NodeId) × (begins s ≡ true) × (k : ℕ) × (climb up k s ≡ Some n))
