use Rattle.std.proofs.Common.{codes, refl, inl}
use Rattle.std.proofs.lemmas.Result.{IfOk-weaker}
use Rattle.st_requests.specs.Answers.{change_answer, line_of}
use Rattle.st_requests.specs.declared.request.Request.TheVariants.{Join}
use Rattle.st_answers.specs.Algebra.{IsJoined}
use Rattle.st_run.proofs.AlgebraAnswers.{told_to}
use Rattle.st_run.proofs.ShortTexts.{change_few}
use Rattle.st_run.proofs.algebra.answer_join.Goals as goal

pub join-requires : goal.join-requires
join-requires c = record { first = change_few c.args.first.now c.requires.0.1; second = change_few c.args.«then».now c.requires.1.1 }

pub returns-in-Ok : goal.returns-in-Ok
returns-in-Ok c =
    let change = c.in-Ok.change in
    let agree = c.in-Ok.ensures.apart c.requires.0.0 c.requires.1.0 in
    let d = c.parts_stand.ensures c.args.first.now c.args.«then».now c.requires.0.0 c.requires.1.0 agree in
    let is : IsJoined c.args.first.now c.args.«then».now change = record {
      there = (d.0, d.1, d.2, d.3, record { sound = d.4; parts = d.5; no_ring = d.6; join = d.7; first_short = d.8; second_short = d.9; first = d.10; second = d.11 });
      each = λ D N M J t. c.in-Ok.ensures.joined D N M J t.sound t.parts t.no_ring t.join t.first_short t.second_short t.first t.second;
    } in
    IfOk-weaker c.tell_change.result _ _
    (λ r h. told_to (Join c.args.first.now c.args.«then».now) (line_of (change_answer (codes "join") change)) r
    (inl (agree, (change, is, refl))) h) c.tell_change.ensures
