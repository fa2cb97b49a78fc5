use Rattle.std.proofs.Common.{◌++◌, ◌∙◌, ap}
use Rattle.std.specs.Option.{option_to_list}
use Rattle.std.specs.List.{filter_map}
use Rattle.std.specs.BTreeSet.{contains}
use Rattle.st_ids.specs.Order.{node_cmp}
use Rattle.st_ids.specs.declared.names.FieldId.{FieldId}
use Rattle.st_marks.specs.Register.{step_register}
use Rattle.st_doc.specs.Doc.{document_of}
use Rattle.st_embed.proofs.Keeping.{listed_all, listed_left}
use Rattle.st_step.proofs.registers.listed_registers.Goals as goal

pub loop-field-preserved : goal.loop-field-preserved
loop-field-preserved c =
    let f = λ (f : FieldId). step_register f (contains node_cmp c.args.mentioned.now) ((document_of c.args.doc.now).held f) ((document_of c.args.later.now).held f) in
    listed_left f c.loop-field.list c.push_if_some.new.list (filter_map f c.args.fields.now.keys) c.loop-field.field-iterator c.next.new.self c.in-Some.field.now c.in-Some.ensures.steps
    (c.in_ok-push_if_some.ensures ∙ ap (λ o. c.loop-field.list ++ option_to_list o) c.in_ok-register.ensures) c.loop-field.invariant

pub returns-clause-registers : goal.returns-clause-registers
returns-clause-registers c =
    let f = λ (f : FieldId). step_register f (contains node_cmp c.args.mentioned.now) ((document_of c.args.doc.now).held f) ((document_of c.args.later.now).held f) in
    listed_all f c.loop-field.list (filter_map f c.args.fields.now.keys) c.loop-field.field-iterator c.in-None.ensures.steps.0 c.loop-field.invariant
