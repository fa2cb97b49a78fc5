-- Two documents that are alike at a node: it has one type and value in both, and holds the same nodes.
use Rattle.std.specs.Prelude.{◌≡◌, ℕ, List, Some, IsSome}
use Rattle.st_ids.specs.declared.names.NodeId.{NodeId}
use Rattle.st_marks.specs.Document.{Document, NodeType, above, climb, content}
use Rattle.st_marks.specs.LiveTree.{owners_shown, register}

-- x is the node n, or stands beneath it
abbrev pub IsFrom : Document → NodeId → NodeId → Type 0
IsFrom D n x = (k : ℕ) × (climb (above D) k x ≡ Some n)

-- what D has at a node, E has there too: what the node is, which nodes its row shows, and which its registers hold
pub record AreAlikeAt (D E : Document) (n : NodeId) : Type 0 where
  pub node : (t : NodeType) → D.nodes n ≡ Some t → E.nodes n ≡ Some t
  pub row : owners_shown (content E n) ≡ owners_shown (content D n)
  pub held : (k : List ℕ) → E.held (register n k) ≡ D.held (register n k)

-- at each node that D has from n downwards
abbrev pub AreAlikeFrom : Document → Document → NodeId → Type 0
AreAlikeFrom D E n = (x : NodeId) → IsSome (D.nodes x) → IsFrom D n x → AreAlikeAt D E x
