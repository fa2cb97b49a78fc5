use Rattle.std.proofs.Common.{subst, sym}
use Rattle.st_clash.specs.inside.Walk.{IsTurn, views_left}
use Rattle.st_clash.proofs.walk.turn_of.Goals as goal

pub returns-in-End : goal.returns-in-End
returns-in-End c = subst (λ xs. IsTurn xs (views_left c.args.y_count c.args.ys.now) c.turn_at_end.result) (sym c.in-End.ensures) (c.turn_at_end.ensures _ c.front_of-other.ensures)

pub returns-in-Counted : goal.returns-in-Counted
returns-in-Counted c = subst (λ xs. IsTurn xs (views_left c.args.y_count c.args.ys.now) c.turn_at_counted.result) (sym c.in-Counted.ensures.1) (c.turn_at_counted.ensures _ c.front_of-other.ensures)

pub returns-in-Named : goal.returns-in-Named
returns-in-Named c = subst (λ xs. IsTurn xs (views_left c.args.y_count c.args.ys.now) c.turn_at_named.result) (sym c.in-Named.ensures) (c.turn_at_named.ensures _ c.front_of-other.ensures)
