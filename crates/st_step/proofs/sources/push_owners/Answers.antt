use Rattle.std.proofs.Common.{◌++◌, ◌∙◌, ap, sym}
use Rattle.std.specs.Option.{option_to_list}
use Rattle.st_doc.specs.Doc.{document_of}
use Rattle.st_embed.proofs.Naming.{picked_more}
use Rattle.st_step.specs.inside.Sources.{changed_owner}
use Rattle.st_step.proofs.sources.push_owners.Goals as goal

pub loop-field-preserved : goal.loop-field-preserved
loop-field-preserved c =
    let field = c.field-item.result in
    picked_more (changed_owner (document_of c.args.doc.now) (document_of c.args.later.now)) c.args.names.now c.loop-field.names c.push_if_some.new.list c.args.fields.now c.loop-field.field-index field field
    c.loop-field-test.true (sym c.field-item.is) c.loop-field.invariant (c.in_ok-push_if_some.ensures ∙ ap (λ o. c.loop-field.names ++ option_to_list o) c.changed_owner.ensures)
