use Rattle.std.proofs.Common.{sym, ap, ◌∙◌, cond, Some}
use Rattle.st_ids.specs.Order.{same_node}
use Rattle.st_marks.specs.declared.intents.To.{To}
use Rattle.st_marks.specs.Intent.{same_option}
use Rattle.st_doc.specs.Doc.{document_of}
use Rattle.st_heads.proofs.Listed.{evicted_one}
use Rattle.st_heads.proofs.back.bring_all_back.Goals as goal

pub loop-field-preserved : goal.loop-field-preserved
loop-field-preserved c = λ n.
    let field = c.field-item.result in
    let D = document_of c.args.doc.now in
    c.in_ok-bring_back.ensures n ∙ ap (cond (same_option same_node (D.held field) (Some n)) (Some (To.Register field))) (c.loop-field.invariant n)
    ∙ evicted_one c.as_slice-field-items.result.now c.loop-field.field-index field c.loop-field-test.true (sym c.field-item.is) (D.held field) n (D.place n) (c.requires.one_held n field)
