use Rattle.std.proofs.Common.{◌∙◌, sym}
use Rattle.std.specs.BTreeMap.{get}
use Rattle.st_ids.specs.Order.{node_cmp}
use Rattle.st_doc.specs.Doc.{document_of}
use Rattle.st_heads.proofs.Listed.{sent_back}
use Rattle.st_heads.proofs.back.bring_back.Goals as goal

pub returns : goal.returns
returns c = λ n.
    c.in_ok-set.ensures n
    ∙ sent_back ((document_of c.args.doc.now).held c.args.field.now) c.in-Some.node n c.in_ok-field.field c.args.field.now (get node_cmp c.args.back.now n) (sym c.in-Some.ensures) c.in_ok-field.ensures
