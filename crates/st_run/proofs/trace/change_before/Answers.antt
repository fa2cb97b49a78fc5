use Rattle.std.proofs.Common.{arith}
use Rattle.std.proofs.lemmas.Result.{IfOk-weaker}
use Rattle.st_doc.specs.Doc.{document_of}
use Rattle.st_plain.proofs.Choosing.{within_edit}
use Rattle.st_script.specs.Steps.{edit_view, step_view}
use Rattle.st_run.proofs.Tracing.{new_told, no_cells, no_nodes, writes_within}
use Rattle.st_run.proofs.trace.change_before.Goals as goal

pub told_of-requires-clause-within : goal.told_of-requires-clause-within
told_of-requires-clause-within c =
    let x = c.in-Some.writing in
    within_edit x.edit.now (writes_within c.args.world.now (step_view c.args.step.now) x.received (document_of x.doc.now) x.schema.now x.given (edit_view x.edit.now) c.in-Some.ensures.is c.requires.goes c.requires.form)

pub told_of-requires-clause-nodes : goal.told_of-requires-clause-nodes
told_of-requires-clause-nodes c =
    let x = c.in-Some.writing in
    omega (arith, no_nodes c.args.world.now (step_view c.args.step.now) x.received (document_of x.doc.now) x.schema.now x.given (edit_view x.edit.now) c.in-Some.ensures.is c.requires.goes)

pub told_of-requires-clause-cells : goal.told_of-requires-clause-cells
told_of-requires-clause-cells c =
    let x = c.in-Some.writing in
    omega (arith, no_cells c.args.world.now (step_view c.args.step.now) x.received (document_of x.doc.now) x.schema.now x.given (edit_view x.edit.now) c.in-Some.ensures.is c.requires.goes)

pub writing-requires-clause-sound : goal.writing-requires-clause-sound
writing-requires-clause-sound c = c.requires.goes.3.sound

pub writing-requires-clause-few : goal.writing-requires-clause-few
writing-requires-clause-few c = omega (arith, c.requires.goes.3.counted, c.requires.goes.4)

pub returns-in-Some : goal.returns-in-Some
returns-in-Some c =
    let x = c.in-Some.writing in
    IfOk-weaker c.told_of.result _ _
    (λ o told. new_told c.args.world.now (step_view c.args.step.now) x.received (document_of x.doc.now) x.schema.now x.given (edit_view x.edit.now) c.in-Some.ensures.is o told) c.told_of.ensures
