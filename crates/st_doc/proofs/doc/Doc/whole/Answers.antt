use Rattle.std.proofs.Common.{◌∙◌}
use Rattle.serde_json.specs.View.{view}
use Rattle.st_ids.specs.Root.{root}
use Rattle.st_doc.specs.Doc.{document_of}
use Rattle.st_doc.specs.LiveText.{is_among}
use Rattle.st_doc.proofs.LiveTexts.{shows_no_float}
use Rattle.st_doc.proofs.doc.Doc.whole.Goals as goal

pub returns : goal.returns
returns c =
    let v = c.in_ok-root.root in
    let shown = c.in_ok-root.ensures in
    (view v, shown, c.from_string.ensures ∙ c.in_ok-to_string.ensures.text (shows_no_float (is_among c.args.arrays.now) (document_of c.args.self.now) root (view v) shown))
