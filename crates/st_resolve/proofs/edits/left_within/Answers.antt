use Rattle.std.proofs.Common.{◌<◌, ◌∙◌, sym, arith}
use Rattle.std.proofs.lemmas.Bool.Decides.{nat_tests}
use Rattle.st_doc.specs.Doc.{document_of}
use Rattle.st_resolve.proofs.OneItem.{left_is, left_is_past}
use Rattle.st_resolve.proofs.edits.left_within.Goals as goal

pub returns-in-Some-clause-ok : goal.returns-in-Some-clause-ok
returns-in-Some-clause-ok c =
    let other = c.if-index-eq0.false in
    let first : 0 < c.args.index = grind (arith, nat_tests, other) in
    left_is (document_of c.args.doc.now) c.args.node c.args.index c.in-Some.slot first (sym c.live_slot.ensures ∙ c.in-Some.is)

pub returns-in-None-clause-bad : goal.returns-in-None-clause-bad
returns-in-None-clause-bad c =
    let other = c.if-index-eq0.false in
    let first : 0 < c.args.index = grind (arith, nat_tests, other) in
    left_is_past (document_of c.args.doc.now) c.args.node c.args.index first (sym c.live_slot.ensures ∙ c.in-None.is)
