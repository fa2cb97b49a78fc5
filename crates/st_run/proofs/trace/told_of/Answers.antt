use Rattle.std.proofs.Common.{Option, refl, subst}
use Rattle.st_doc.specs.Doc.{document_of}
use Rattle.st_marks.specs.declared.changes.Change.{Change}
use Rattle.st_script.specs.Steps.{edit_view}
use Rattle.st_told_edits.specs.Told.{IsToldOf}
use Rattle.st_world.specs.World.{intent_of}
use Rattle.st_run.proofs.trace.told_of.Goals as goal

pub returns-in-Some : goal.returns-in-Some
returns-in-Some c =
    let x = c.args.writing.now in
    let D = document_of x.doc.now in
    (refl, subst (λ (o : Option Change). IsToldOf D (intent_of D x.schema.now x.given (edit_view x.edit.now)) o) c.in-Some.is c.in_ok-told.ensures)
