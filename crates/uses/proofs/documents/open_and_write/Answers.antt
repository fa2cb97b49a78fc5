use Rattle.std.specs.Prelude.{refl}
use Rattle.std.proofs.Common.{sym, subst}
use Rattle.st_ids.specs.Root.{root}
use Rattle.st_tree.specs.Node.{view}
use Rattle.serde_json.specs.Written.{compact_text}
use Rattle.st_schema.specs.TreeText.{tree_data}
use Rattle.st_marks.specs.Document.{Document}
use Rattle.st_marks.specs.LiveTree.{Shows}
use Rattle.st_doc.specs.Doc.{document_of}
use Rattle.st_doc.specs.LiveText.{is_among}
use Rattle.st_opening.proofs.StartSound.{within_few}
use Rattle.uses.proofs.documents.open_and_write.Goals as goal

pub returns : goal.returns
returns c =
    let t = view c.args.tree.now in
    let s = c.args.schema.now in
    let rows = is_among c.args.arrays.now in
    let r = c.requires in
    let opened = c.opening_is_seen.ensures.tree rows s s.root t c.in_ok-schema.schema r.arrays r.allowed (within_few t r.within) in
    let shown = subst (λ (D : Document). Shows rows D root (tree_data t)) (sym c.in_ok-doc.ensures.document) opened in
    c.one_tree.ensures.text rows (document_of c.in_ok-doc.doc) c.in_ok-text.text (compact_text (tree_data t)) c.in_ok-text.ensures (tree_data t, shown, refl)
