use Rattle.std.proofs.lemmas.Result.{on_ok_weaker}
use Rattle.st_seats.proofs.PastCommits.{passes}
use Rattle.st_seats.proofs.rising.pass_other.Goals as goal

pub returns : goal.returns
returns g c = on_ok_weaker c.go_on.result
    (λ goes. passes g.R.Carrier.listed c.args.step.now c.in_ok-over.over c.push_through.new.step c.args.sent.now c.args.gone.now c.go_on.new.gone c.push_through.new.changes c.push_through.new.verdicts
    c.in_ok-over.ensures c.in_ok-push_through.ensures goes)
    c.go_on.ensures
