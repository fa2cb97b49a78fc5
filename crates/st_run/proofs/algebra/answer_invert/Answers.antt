use Rattle.std.proofs.Common.{codes, refl}
use Rattle.std.proofs.lemmas.Result.{IfOk-weaker}
use Rattle.st_requests.specs.Answers.{line_of, step_answer}
use Rattle.st_requests.specs.declared.request.Request.TheVariants.{Invert}
use Rattle.st_answers.specs.Algebra.{IsInverted}
use Rattle.st_run.proofs.AlgebraAnswers.{told_to}
use Rattle.st_run.proofs.ShortTexts.{step_few}
use Rattle.st_run.proofs.algebra.answer_invert.Goals as goal

pub invert-requires : goal.invert-requires
invert-requires c = step_few c.args.step.now c.requires.1

pub returns : goal.returns
returns c =
    let back = c.in_ok-back.back in
    let is : IsInverted c.args.step.now back = record { there = c.steps_that_obey_are_normal.ensures c.args.step.now c.requires.0; each = c.in_ok-back.ensures.exact } in
    IfOk-weaker c.tell_step.result _ _
    (λ r h. told_to (Invert c.args.step.now) (line_of (step_answer (codes "invert") back)) r (back, is, refl) h) c.tell_step.ensures
