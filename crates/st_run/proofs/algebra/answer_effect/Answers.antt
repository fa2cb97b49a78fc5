use Rattle.std.proofs.Common.{codes, refl}
use Rattle.std.proofs.lemmas.Result.{IfOk-weaker}
use Rattle.st_requests.specs.Answers.{line_of, verdict_answer}
use Rattle.st_requests.specs.declared.request.Request.TheVariants.{Effect}
use Rattle.st_answers.specs.Algebra.{IsEffect}
use Rattle.st_run.proofs.AlgebraAnswers.{told_to}
use Rattle.st_run.proofs.ShortTexts.{change_few}
use Rattle.st_run.proofs.algebra.answer_effect.Goals as goal

pub effect-requires : goal.effect-requires
effect-requires c = change_few c.args.change.now c.requires.1

pub returns : goal.returns
returns c =
    let done = c.in_ok-done.done in
    let d = c.changes_that_obey_are_normal.ensures c.args.change.now c.requires.0 in
    let is : IsEffect c.args.change.now done.step done.verdict = record {
      there = (d.0, d.1, record { sound = d.2; fits = d.3; short = d.4; change = d.5 });
      each = λ D N t. c.in_ok-done.ensures.exact D N t.sound t.fits t.short t.change;
    } in
    IfOk-weaker c.tell_effect.result _ _
    (λ r h. told_to (Effect c.args.change.now) (line_of (verdict_answer (codes "effect") done.step done.verdict)) r
    (done.verdict, (done.step, is, refl)) h) c.tell_effect.ensures
