use Rattle.std.proofs.Common.{◌≡◌, ◌∙◌, Ok, sym, ap}
use Rattle.st_doc.specs.Doc.{document_of}
use Rattle.st_edits.specs.Resolve.{need}
use Rattle.st_lists.specs.Open.{with_open}
use Rattle.st_lists.specs.Clients.{joined_of}
use Rattle.st_world.specs.World.{next_names}
use Rattle.st_plain_edits.proofs.transactions.need.Goals as goal

pub take_in-requires-clause-can : goal.take_in-requires-clause-can
take_in-requires-clause-can c =
    let client = c.args.client.now in
    let shown = c.shown_doc.ensures (joined_of client) c.requires.open in
    let meant : need (with_open (document_of c.args.kept.now.main.doc) (joined_of client)) (next_names client client.transaction) c.args.at.now ≡ Ok c.in-Ok.intent =
    ap (λ D. need D (next_names client client.transaction) c.args.at.now) (sym shown) ∙ ap (λ G. need (document_of c.shown_doc.result.now) G c.args.at.now) (sym c.next_names.ensures) ∙ c.in-Ok.ensures.ok in
    c.requires.can c.in-Ok.intent meant
