-- Sets of nodes that have the node above each of theirs.
use Rattle.std.specs.Prelude.{◌≡◌, Bool, true, Some}
use Rattle.st_ids.specs.declared.names.NodeId.{NodeId}
use Rattle.st_marks.specs.Document.{Document, above}

-- with each of the nodes the one above it is one of them
abbrev pub IsClosedIn : Document → (NodeId → Bool) → Type 0
IsClosedIn E m = (n p : NodeId) → m n ≡ true → above E n ≡ Some p → m p ≡ true
