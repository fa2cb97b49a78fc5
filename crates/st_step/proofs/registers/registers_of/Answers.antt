use Rattle.std.proofs.Common.{refl, sym, ◌∙◌}
use Rattle.std.specs.BTreeSet.{contains}
use Rattle.st_ids.specs.Order.{field_cmp, node_cmp}
use Rattle.st_ids.specs.declared.names.FieldId.{FieldId}
use Rattle.st_ids.proofs.Orders.{field_cmp_exact}
use Rattle.st_marks.specs.declared.marks.RegStep.{RegStep}
use Rattle.st_marks.specs.Register.{step_register}
use Rattle.st_doc.specs.Doc.{document_of}
use Rattle.st_embed.proofs.Listing.{listing}
use Rattle.st_step.proofs.Listed.{no_register, register_named}
use Rattle.st_step.proofs.registers.registers_of.Goals as goal

pub returns : goal.returns
returns c =
    let D = document_of c.args.doc.now in
    let E = document_of c.args.later.now in
    let m = contains node_cmp c.args.mentioned.now in
    let g = λ (f : FieldId). step_register f m (D.held f) (E.held f) in
    listing field_cmp field_cmp_exact (λ (r : RegStep). r.field) g (λ f r e. register_named f m (D.held f) (E.held f) r e)
    c.in_ok-fields.fields.keys c.in_ok-list.list g c.in_ok-list.ensures.ordered c.in_ok-list.ensures.registers
    (λ q there. refl) (λ q e. no_register q m (D.held q) (E.held q) (sym (c.in_ok-fields.ensures q) ∙ e))
