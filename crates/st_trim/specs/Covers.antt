-- Sets of nodes that have all that a step mentions.
use Rattle.std.specs.Prelude.{◌≡◌, true}
use Rattle.st_ids.specs.declared.names.NodeId.{NodeId}
use Rattle.st_kind.specs.Named.{Nodes}
use Rattle.st_marks.specs.Document.{Document}
use Rattle.st_marks.specs.Step.{IsChanged}
use Rattle.st_mention_laws.specs.Closed.{IsClosedIn}

-- the set has each node that differs from D to E, and with each of its nodes the one above it in D
pub record CoversStep (D E : Document) (K : Nodes) : Type 0 where
  pub closed : IsClosedIn D K
  pub changed : (n : NodeId) → IsChanged D E n → K n ≡ true
