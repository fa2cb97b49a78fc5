use Rattle.std.proofs.Common.{◌||◌, is_some, ◌∙◌}
use Rattle.std.specs.List.{list_any}
use Rattle.st_ids.specs.Order.{same_field}
use Rattle.st_ids.specs.declared.names.FieldId.{FieldId}
use Rattle.st_ids.proofs.Orders.{same_field-itself, same_field-true}
use Rattle.st_doc.specs.Doc.{document_of}
use Rattle.st_step.proofs.Listed.{among_told}
use Rattle.st_step.proofs.registers.occupied.Goals as goal

pub returns : goal.returns
returns c = λ f.
    let D = document_of c.args.doc.now in
    let E = document_of c.args.later.now in
    c.in_ok-set.ensures f
    ∙ (λ i. list_any (λ (g : FieldId). same_field g f) (c.as_slice.ensures i) || list_any (λ (g : FieldId). same_field g f) (c.as_slice-2.ensures i))
    ∙ (λ i. among_told same_field same_field-true same_field-itself c.in_ok-before.before f (is_some (D.held f)) (c.in_ok-before.ensures f) i
    || among_told same_field same_field-true same_field-itself c.in_ok-after.after f (is_some (E.held f)) (c.in_ok-after.ensures f) i)
