use Rattle.std.proofs.Common.{◌≡◌, ◌∙◌, arith, length}
use Rattle.st_ahead.proofs.Carried.{entered, written_before}
use Rattle.st_ahead.proofs.taking.commit_at.Goals as goal

pub returns : goal.returns
returns g c = λ O A T log session known ids N w number window low up within lag coming.
    let l = g.R.Carrier.listed in
    let r = c.args.reference in
    let end : c.saturating_sub.result ≡ length log = omega (arith, c.saturating_sub.ensures, number) in
    let raised = c.raise.ensures l O log session known up within lag in
    let caught = c.in_ok-catch_up.ensures l O log session r (written_before l O log session r ids N w) window (omega (arith, low, up)) end raised in
    let took = c.in_ok-take_commit.ensures O A T log session r ids N w caught.0 (caught.1 ∙ end) number coming.to_author coming.to_trunk coming.change in
    (entered l O log session r ids N w A T c.args.change.now c.take_commit.new.change c.in_ok-effected.effected coming took.1 c.in_ok-effected.ensures, took.0)
