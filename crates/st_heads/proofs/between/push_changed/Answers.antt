use Rattle.std.proofs.Common.{◌++◌, ◌∙◌, ap, sym}
use Rattle.std.specs.Option.{option_to_list}
use Rattle.st_doc.specs.Doc.{document_of}
use Rattle.st_heads.specs.inside.Between.{changed_field}
use Rattle.st_heads.proofs.Listed.{picked_more}
use Rattle.st_heads.proofs.between.push_changed.Goals as goal

pub loop-field-preserved : goal.loop-field-preserved
loop-field-preserved c =
    let field = c.field-item.result in
    picked_more (changed_field (document_of c.args.before.now) (document_of c.args.after.now)) c.args.fields.now c.loop-field.fields c.push_field.new.fields c.args.among.now c.loop-field.field-index field field
    c.loop-field-test.true (sym c.field-item.is) c.loop-field.invariant (c.in_ok-push_field.ensures ∙ ap (λ o. c.loop-field.fields ++ option_to_list o) c.changed_field.ensures)
