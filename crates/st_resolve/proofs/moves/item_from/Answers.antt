use Rattle.std.proofs.Common.{◌∙◌, Ok, sym, ap}
use Rattle.st_doc.specs.Doc.{document_of}
use Rattle.st_resolve.proofs.OneItem.{one_is, one_is_past}
use Rattle.st_resolve.proofs.moves.item_from.Goals as goal

pub returns-in_ok-one_node-in-Some-clause-ok : goal.returns-in_ok-one_node-in-Some-clause-ok
returns-in_ok-one_node-in-Some-clause-ok c =
    one_is (document_of c.args.doc.now) c.args.node c.args.index c.in-Some.slot (sym c.live_slot.ensures ∙ c.in-Some.is) ∙ ap (λ ns. Ok ns) (sym c.in_ok-one_node-in-Some.ensures)

pub returns-in-None-clause-bad : goal.returns-in-None-clause-bad
returns-in-None-clause-bad c = one_is_past (document_of c.args.doc.now) c.args.node c.args.index (sym c.live_slot.ensures ∙ c.in-None.is)
