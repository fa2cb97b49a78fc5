-- What the plain document stands for.
use Rattle.std.specs.Prelude.{[], unwrap_or}
use Rattle.std.specs.BTreeMap.{get}
use Rattle.st_ids.specs.Order.{node_cmp, cell_cmp, field_cmp}
use Rattle.st_marks.specs.declared.places.Spot.{Spot}
use Rattle.st_marks.specs.Document.{Document}
use Rattle.st_doc.specs.Nodes.{type_of}
use Rattle.st_doc.specs.declared.doc.Doc.{Doc}

-- each part by its look-ups: a node without a row has no cells, and one without a place is nowhere
abbrev pub document_of : Doc → Document
document_of d = record {
  nodes = λ n. type_of (get node_cmp d.nodes n);
  rows = λ n. unwrap_or (get node_cmp d.rows n) [];
  row_of = λ c. get cell_cmp d.row_of c;
  place = λ n. unwrap_or (get node_cmp d.place n) Spot.Nowhere;
  held = λ f. get field_cmp d.held f;
  schemas = d.schemas;
}
