use Rattle.std.proofs.lemmas.Result.{on_ok_weaker}
use Rattle.st_ahead.proofs.Carried.{carried_at}
use Rattle.st_ahead.proofs.carrying.carry_at.Goals as goal

pub returns-in-Some : goal.returns-in-Some
returns-in-Some g c = on_ok_weaker c.carry.result
    (λ carried. carried_at g.R.Carrier.listed c.args.place c.args.ahead.now c.in-Some.one.now c.args.change.now c.carry.new.change c.args.verdict.now c.carry.new.verdict c.carry.new.step c.in-Some.ensures.value carried)
    c.carry.ensures
