use Rattle.std.proofs.Common.{codes, refl}
use Rattle.std.proofs.lemmas.Result.{IfOk-weaker}
use Rattle.st_requests.specs.Answers.{change_answer, line_of}
use Rattle.st_requests.specs.declared.request.Request.TheVariants.{Revert}
use Rattle.st_run.proofs.AlgebraAnswers.{taken_out, told_to}
use Rattle.st_run.proofs.ShortTexts.{step_few}
use Rattle.st_run.proofs.algebra.answer_revert.Goals as goal

pub revert-requires : goal.revert-requires
revert-requires c = step_few c.args.step.now c.requires.1

pub returns : goal.returns
returns c =
    let change = c.in_ok-change.change in
    let is = c.in_ok-change.ensures in
    IfOk-weaker c.tell_change.result _ _
    (λ r h. told_to (Revert c.args.step.now c.args.rev c.args.under) (line_of (change_answer (codes "revert") change)) r
    (change, record { there = c.each_step_has_a_way_back.ensures c.args.step.now c.args.rev c.args.under c.requires.0; each = is.reverted; each_under = is.under_any; base = taken_out c.args.step.now c.args.under change.base is.base }, refl) h) c.tell_change.ensures
