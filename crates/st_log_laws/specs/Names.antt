-- Which names a document has, and the revisions under which they were made.
use Rattle.std.specs.Prelude.{◌≡◌, List, map, Some, IsSome}
use Rattle.st_ids.specs.Listing.{AreDistinct, Has}
use Rattle.st_ids.specs.declared.names.NodeId.{NodeId}
use Rattle.st_ids.specs.declared.names.Rev.{Rev}
use Rattle.st_marks.specs.declared.intents.Intent.{Intent}
use Rattle.st_marks.specs.declared.intents.Owned.{Owned}
use Rattle.st_marks.specs.declared.schemas.SchemaEntry.{SchemaEntry}
use Rattle.st_marks.specs.Document.{Document, NodeType}

-- E has all of D's nodes, with their types and values, and in each row all of D's cells, with their owners. The order of
-- cells, and what stands where, may differ.
pub record HasNames (D E : Document) : Type 0 where
  pub nodes : (n : NodeId) (t : NodeType) → D.nodes n ≡ Some t → E.nodes n ≡ Some t
  pub cells : (n : NodeId) (o : Owned) → Has (D.rows n) o → Has (E.rows n) o

-- each node, each cell and each schema entry of a document was made under one of these revisions
pub record IsMadeUnder (rs : List Rev) (D : Document) : Type 0 where
  pub nodes : (n : NodeId) → IsSome (D.nodes n) → Has rs n.0.rev
  pub cells : (n : NodeId) (o : Owned) → Has (D.rows n) o → Has rs o.cell.0.rev
  pub schemas : (e : SchemaEntry) → Has D.schemas e → Has rs e.rev

-- the revisions of intents
abbrev pub revisions : List Intent → List Rev
revisions Ns = map (λ (N : Intent). N.rev) Ns

-- no two intents have one revision, and none has one of these
pub record HaveNewRevisions (rs : List Rev) (Ns : List Intent) : Type 0 where
  pub once : AreDistinct (λ (N : Intent). N.rev) Ns
  pub new : (N : Intent) → Has Ns N → Has rs N.rev → ⊥
