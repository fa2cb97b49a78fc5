use Rattle.std.proofs.Common.{Some, option_copied, subst, sym}
use Rattle.std.proofs.lemmas.Result.{IfOk-weaker}
use Rattle.st_doc.specs.Doc.{document_of}
use Rattle.st_marks.specs.Document.{revs}
use Rattle.st_schema_texts.specs.Reading.{IsSchemaOf}
use Rattle.st_keeps.proofs.Passing.{by_schema}
use Rattle.st_keeps.proofs.passes.passes_schema.Goals as goal

pub returns-in-Some-2 : goal.returns-in-Some-2
returns-in-Some-2 c =
    let D = document_of c.args.doc.now in
    let text = c.in-Some.text.now in
    let U = c.in-Some-2.schema.now in
    let known : IsSchemaOf text (Some U) = subst (λ o. IsSchemaOf text (option_copied o)) c.in-Some-2.is c.in_ok-schema_of.ensures in
    IfOk-weaker c.keeps.result _ _
    (λ b is O log knows. by_schema O D log c.args.intent.now b text U (revs c.in-Some-front_to.front.now) (sym c.in-Some.ensures) known.0 known.1 c.in-Some-front_to.ensures.some (is O log knows))
    c.keeps.ensures
