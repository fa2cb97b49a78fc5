use Rattle.std.proofs.Common.{[], Some, refl}
use Rattle.std.proofs.lemmas.Result.{IfOk-weaker}
use Rattle.st_script.specs.AnswerText.{answer_line}
use Rattle.st_script.specs.declared.answer.Answer.TheVariants as answer
use Rattle.st_answers.specs.Replay.{opened, replay, unopened}
use Rattle.st_run.specs.inside.Replaying.{IsReplayIn}
use Rattle.st_run.proofs.Replying.{told_so}
use Rattle.st_run.proofs.replay.take_opening.Goals as goal

pub returns-in-Ok : goal.returns-in-Ok
returns-in-Ok c =
    let read = c.in-Ok.read in
    let ok = c.in-Ok.ensures.ok in
    IfOk-weaker c.tell_header.result _ _
    (λ r told. told_so replay unopened c.args.number c.args.line.now (IsReplayIn (Some read)) (answer_line answer.Header) (opened ok.0 []) r
    (record { header = ok.0; is = ok.1; told = refl; state = refl }) (read, refl, (ok.2, ok.3)) told) c.tell_header.ensures
