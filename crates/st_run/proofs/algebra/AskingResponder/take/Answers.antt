use Rattle.std.proofs.lemmas.Result.{IfOk-weaker}
use Rattle.st_run.proofs.AlgebraAnswers.{request_taken}
use Rattle.st_run.proofs.algebra.AskingResponder.take.Goals as goal

pub returns-in-Ok : goal.returns-in-Ok
returns-in-Ok c =
    IfOk-weaker c.answer.result _ _
    (λ r h s stands. request_taken c.args.number c.args.line.now c.in-Ok.request r c.in-Ok.ensures.ok h) c.answer.ensures
