use Rattle.std.proofs.Common.{codes, refl, inl}
use Rattle.std.proofs.lemmas.Result.{IfOk-weaker}
use Rattle.st_requests.specs.Answers.{line_of, step_answer}
use Rattle.st_requests.specs.declared.request.Request.TheVariants.{Compose}
use Rattle.st_answers.specs.Algebra.{IsComposed}
use Rattle.st_run.proofs.AlgebraAnswers.{told_to}
use Rattle.st_run.proofs.ShortTexts.{step_few}
use Rattle.st_run.proofs.algebra.answer_compose.Goals as goal

pub compose-requires : goal.compose-requires
compose-requires c = step_few c.args.«then».now c.requires.1.1

pub returns-in-Ok : goal.returns-in-Ok
returns-in-Ok c =
    let step = c.in-Ok.step in
    let agree = c.in-Ok.ensures.apart c.requires.0.0 c.requires.1.0 in
    let d = c.stand_in_turn.ensures c.args.first.now c.args.«then».now c.requires.0.0 c.requires.1.0 agree in
    let is : IsComposed c.args.first.now c.args.«then».now step = record {
      there = (d.0, d.1, d.2, record { first = d.3; second = d.4; step = d.5; next = d.6 });
      each = λ D E F t. c.in-Ok.ensures.composed D E F t.first t.second t.step t.next;
    } in
    IfOk-weaker c.tell_step.result _ _
    (λ r h. told_to (Compose c.args.first.now c.args.«then».now) (line_of (step_answer (codes "compose") step)) r
    (inl (agree, (step, is, refl))) h) c.tell_step.ensures
