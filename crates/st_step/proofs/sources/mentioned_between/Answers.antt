use Rattle.std.proofs.Common.{subst, sym}
use Rattle.std.specs.BTreeSet.{contains}
use Rattle.st_ids.specs.Order.{node_cmp}
use Rattle.st_doc.specs.Doc.{document_of}
use Rattle.st_step.specs.inside.Sources.{AreChanged}
use Rattle.st_step.proofs.Changed.{are_mentioned}
use Rattle.st_step.proofs.sources.mentioned_between.Goals as goal

pub returns : goal.returns
returns c =
    let D = document_of c.args.doc.now in
    let E = document_of c.args.later.now in
    are_mentioned D E c.as_slice.result.now (contains node_cmp c.in_ok-mentioned.mentioned) (subst (AreChanged D E) (sym c.as_slice.ensures) c.in_ok-names.ensures) c.in_ok-mentioned.ensures
