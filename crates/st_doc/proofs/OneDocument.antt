-- Documents with the same look-ups are one.
use Rattle.std.proofs.Common.{◌≡◌}
use Rattle.st_ids.specs.declared.names.CellId.{CellId}
use Rattle.st_ids.specs.declared.names.FieldId.{FieldId}
use Rattle.st_ids.specs.declared.names.NodeId.{NodeId}
use Rattle.st_marks.specs.Document.{Document}

pub same_document : (D E : Document) → ((n : NodeId) → D.nodes n ≡ E.nodes n) → ((n : NodeId) → D.rows n ≡ E.rows n) → ((c : CellId) → D.row_of c ≡ E.row_of c)
    → ((n : NodeId) → D.place n ≡ E.place n) → ((f : FieldId) → D.held f ≡ E.held f) → D.schemas ≡ E.schemas → D ≡ E
same_document D E nodes rows row_of place held schemas = λ i. record {
  nodes = λ n. nodes n i;
  rows = λ n. rows n i;
  row_of = λ c. row_of c i;
  place = λ n. place n i;
  held = λ f. held f i;
  schemas = schemas i;
}
