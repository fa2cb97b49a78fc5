use Rattle.std.proofs.Common.{[], ap, unwrap_or}
use Rattle.st_marks.specs.declared.places.Spot.{Spot}
use Rattle.st_doc.specs.Doc.{document_of}
use Rattle.st_doc.specs.Nodes.{type_of}
use Rattle.st_doc.proofs.OneDocument.{same_document}
use Rattle.st_doc.proofs.doc.Doc.copy.Goals as goal

pub returns : goal.returns
returns c = same_document
    (document_of (record { nodes = c.in_ok-nodes.nodes; rows = c.in_ok-rows.rows; row_of = c.in_ok-row_of.row_of; place = c.in_ok-place.place; held = c.in_ok-held.held; schemas = c.in_ok-schemas.schemas }))
    (document_of c.args.self.now)
    (λ n. ap type_of (c.in_ok-nodes.ensures n)) (λ n. ap (λ r. unwrap_or r []) (c.in_ok-rows.ensures n)) (λ n. c.in_ok-row_of.ensures n)
    (λ n. ap (λ s. unwrap_or s Spot.Nowhere) (c.in_ok-place.ensures n)) (λ f. c.in_ok-held.ensures f) c.in_ok-schemas.ensures
