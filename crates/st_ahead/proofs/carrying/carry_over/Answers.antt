use Rattle.std.proofs.Common.{sym, ◌∙◌}
use Rattle.std.proofs.lemmas.Result.{on_ok_weaker}
use Rattle.st_ahead.proofs.Carried.{none_over, read_there, written_first}
use Rattle.st_ahead.proofs.carrying.carry_over.Goals as goal

pub returns : goal.returns
returns g c = on_ok_weaker c.carry_over_all.result
    (λ goes O A log session reference last ids N w low end before author shown.
    let l = g.R.Carrier.listed in
    let first = written_first l O log session reference ids N w A last c.args.change.now c.in_ok-verdict.verdict low end author shown c.in_ok-verdict.ensures in
    let k = goes O log session reference last ids N w low end before first in
    (k.0, read_there l O log session reference ids N w last c.carry_over_all.new.change c.carry_over_all.new.verdict k.1))
    c.carry_over_all.ensures

pub returns-then-is_empty : goal.returns-then-is_empty
returns-then-is_empty g c = λ O A log session reference last ids N w low end before author shown.
    none_over g.R.Carrier.listed O log session reference ids N w A last c.args.ahead.now c.args.change.now low end (sym c.is_empty.ensures ∙ c.if-is_empty.true) before author shown
