use Rattle.std.proofs.lemmas.Result.{on_ok_weaker}
use Rattle.st_undo.proofs.GoingOver.{over_one}
use Rattle.st_undo.proofs.carrying.go_over.Goals as goal

pub returns : goal.returns
returns g c = on_ok_weaker c.carry.result
    (λ carries. over_one g.R.Carrier.listed c.args.step.now c.in_ok-over.over c.carry.new.step c.args.change.now c.carry.new.change c.args.verdict.now c.carry.new.verdict c.in_ok-over.ensures carries)
    c.carry.ensures
