use Rattle.std.proofs.Common.{codes, refl, inl}
use Rattle.std.proofs.lemmas.Result.{IfOk-weaker}
use Rattle.st_requests.specs.Answers.{line_of, step_answer}
use Rattle.st_requests.specs.declared.request.Request.TheVariants.{Bridge}
use Rattle.st_answers.specs.Algebra.{IsBridged}
use Rattle.st_run.proofs.AlgebraAnswers.{told_to}
use Rattle.st_run.proofs.ShortTexts.{rows_have_room}
use Rattle.st_run.proofs.algebra.answer_bridge.Goals as goal

pub bridge-requires : goal.bridge-requires
bridge-requires c = rows_have_room c.args.change.now c.args.step.now c.requires.0.1 c.requires.1.1

pub returns-in-Ok : goal.returns-in-Ok
returns-in-Ok c =
    let later = c.in-Ok.later in
    let agree = c.in-Ok.ensures.apart c.requires.0.0 c.requires.1.0 in
    let d = c.stand_beside.ensures c.args.change.now c.args.step.now c.requires.0.0 c.requires.1.0 agree in
    let room = rows_have_room c.args.change.now c.args.step.now c.requires.0.1 c.requires.1.1 in
    let short = c.room_is_enough.ensures d.0 d.1 d.2 c.args.change.now c.args.step.now d.3 d.4 d.6 d.7 d.8 room in
    let v = c.each_has_a_verdict.ensures.verdict d.0 d.2 d.3.before in
    let u = c.each_has_a_verdict.ensures.verdict d.1 d.2 d.3.after in
    let is : IsBridged c.args.change.now c.args.step.now later = record {
      there = (d.0, d.1, d.2, v.0, u.0, record { extended = d.3; fits = d.4; fits_later = d.5; change = d.7; step = d.8 }, record { short = d.6; short_later = short; verdict = v.1; verdict_later = u.1 });
      each = λ D E N v u t j. c.in-Ok.ensures.bridged D E N v u t.extended t.fits t.fits_later j.short j.short_later t.change t.step j.verdict j.verdict_later;
    } in
    IfOk-weaker c.tell_step.result _ _
    (λ r h. told_to (Bridge c.args.change.now c.args.step.now) (line_of (step_answer (codes "bridge") later)) r
    (inl (agree, (later, is, refl))) h) c.tell_step.ensures
