use Rattle.std.proofs.Common.{Some, refl}
use Rattle.std.proofs.lemmas.Result.{IfOk-weaker}
use Rattle.st_lists.specs.Clients.{empty_state}
use Rattle.st_script.specs.AnswerText.{answer_line}
use Rattle.st_script.specs.declared.answer.Answer.TheVariants as answer
use Rattle.st_answers.specs.Trace.{opened, trace, unopened}
use Rattle.st_run.specs.inside.Standing.{IsOpenedIn}
use Rattle.st_run.proofs.Replying.{told_so}
use Rattle.st_run.proofs.Tracing.{opened_anew}
use Rattle.st_run.proofs.trace.take_header.Goals as goal

pub returns-in-Ok : goal.returns-in-Ok
returns-in-Ok c =
    let world = c.in-Ok.world in
    let ok = c.in-Ok.ensures.ok in
    IfOk-weaker c.tell_header.result _ _
    (λ r told. told_so trace unopened c.args.number c.args.line.now (IsOpenedIn (Some world)) (answer_line answer.Header) (opened ok.0 empty_state) r
    (record { header = ok.0; is = ok.1; told = refl; state = refl }) (world, refl, opened_anew world ok.0 ok.2) told) c.tell_header.ensures
