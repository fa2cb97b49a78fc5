use Rattle.std.proofs.lemmas.Result.{on_ok_weaker}
use Rattle.st_undo.proofs.GoingOver.{over_change}
use Rattle.st_undo.proofs.carrying.go_over_change.Goals as goal

pub returns : goal.returns
returns g c = on_ok_weaker c.go_over.result
    (λ goes. over_change g.R.Carrier.listed c.args.other.now c.args.change.now c.go_over.new.change c.args.verdict.now c.go_over.new.verdict c.in_ok-effected.effected c.in_ok-effected.ensures goes)
    c.go_over.ensures
