use Rattle.std.proofs.Common.{codes, refl, inl}
use Rattle.std.proofs.lemmas.Result.{IfOk-weaker}
use Rattle.st_requests.specs.Answers.{change_answer, line_of}
use Rattle.st_requests.specs.declared.request.Request.TheVariants.{Rebase}
use Rattle.st_answers.specs.Algebra.{IsRebased}
use Rattle.st_run.proofs.AlgebraAnswers.{told_to}
use Rattle.st_run.proofs.ShortTexts.{rows_have_room}
use Rattle.st_run.proofs.algebra.answer_rebase.Goals as goal

pub rebase-requires : goal.rebase-requires
rebase-requires c = rows_have_room c.args.change.now c.args.over.now c.requires.0.1 c.requires.1.1

pub returns-in-Ok : goal.returns-in-Ok
returns-in-Ok c =
    let later = c.in-Ok.later in
    let agree = c.in-Ok.ensures.apart c.requires.0.0 c.requires.1.0 in
    let d = c.stand_beside.ensures c.args.change.now c.args.over.now c.requires.0.0 c.requires.1.0 agree in
    let is : IsRebased c.args.change.now c.args.over.now later = record {
      there = (d.0, d.1, d.2, record { extended = d.3; fits = d.4; fits_later = d.5; change = d.7; step = d.8 });
      each = λ D E N t. c.in-Ok.ensures.rebased D E N t.extended t.fits t.fits_later t.change t.step;
    } in
    IfOk-weaker c.tell_change.result _ _
    (λ r h. told_to (Rebase c.args.change.now c.args.over.now) (line_of (change_answer (codes "rebase") later)) r
    (inl (agree, (later, is, refl))) h) c.tell_change.ensures
