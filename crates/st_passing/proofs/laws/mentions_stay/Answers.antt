use Rattle.std.proofs.Common.{◌≡◌, IsSome, Option, Some, None, refl, is_some, ap, true, false, Bool}
use Rattle.st_ids.specs.declared.names.NodeId.{NodeId}
use Rattle.st_marks.specs.Document.{Document, NodeType}
use Rattle.st_marks.specs.Extends.{IsExtendedBy}
use Rattle.st_passing.proofs.Mentions.{earlier, later}
use Rattle.st_passing.proofs.laws.mentions_stay.Goals as goal

kept : (D E : Document) → IsExtendedBy D E → (s : NodeId) → IsSome (D.nodes s) → IsSome (E.nodes s)
kept D E x s h = go (D.nodes s) refl h
  where
    go : (o : Option NodeType) → D.nodes s ≡ o → IsSome o → IsSome (E.nodes s)
    go None e h = let q : ◌≡◌ {A = Bool} false true = h in cc
    go (Some t) e h = ap is_some (x.nodes s t e)

pub returns : goal.returns
returns c = λ D E N n x f g stay. (earlier D E N x f g stay n, later D E N x f g stay (kept D E x) n)
