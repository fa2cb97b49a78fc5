use Rattle.std.proofs.lemmas.Result.{IfOk-weaker}
use Rattle.st_doc.specs.Doc.{document_of}
use Rattle.st_world.specs.World.{opening_document}
use Rattle.st_run.proofs.Replaying.{doc_schemas, tree_told}
use Rattle.st_run.proofs.replay.tell_tree.Goals as goal

pub tree_text-requires-clause-schemas : goal.tree_text-requires-clause-schemas
tree_text-requires-clause-schemas c = doc_schemas c.args.replay.now c.doc.result.now c.doc.ensures c.requires.stands

pub returns : goal.returns
returns c =
    IfOk-weaker c.tell.result _ _
    (λ r told h log header at. tree_told (opening_document h) log (document_of c.doc.result.now) c.in_ok-tree.tree c.in_ok-text.text r (c.doc.ensures (opening_document h) log at).ran c.in_ok-tree.ensures c.in_ok-text.ensures told) c.tell.ensures
