-- The order in which the nodes of the live tree are gone through: backwards it makes each node's value from those of the
-- nodes directly beneath it, which come behind it.
use Rattle.std.specs.Prelude.{◌≡◌, ℕ, ◌+◌, List, drop, Some, slice_get}
use Rattle.st_ids.specs.Listing.{AreDistinct, Has}
use Rattle.st_ids.specs.declared.names.NodeId.{NodeId}
use Rattle.st_marks.specs.Document.{Document, IsLive, above, first_of}
use Rattle.st_ids.specs.Root.{root}

-- the root is first, each node is there once and live, and whatever stands in the row or a register of a node comes
-- behind that node
pub record IsTopDown (D : Document) (order : List NodeId) : Type 0 where
  pub begins : first_of order ≡ Some root
  pub once : AreDistinct (λ (n : NodeId). n) order
  pub live : (n : NodeId) → Has order n → IsLive D n
  pub behind : (i : ℕ) (n m : NodeId) → slice_get order i ≡ Some n → above D m ≡ Some n → Has (drop (i + 1) order) m
