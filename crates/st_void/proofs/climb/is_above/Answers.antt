use Rattle.std.proofs.Common.{refl, sym, ap, ◌∙◌, arith}
use Rattle.st_ids.proofs.Orders.{same_node-itself, same_node-true}
use Rattle.st_ids.specs.Order.{same_node}
use Rattle.st_lemmas.proofs.Bools.{true-false}
use Rattle.st_void.specs.Standing.{above_shown}
use Rattle.st_void.proofs.Climbs.{all_above, count_above, is_above_some}
use Rattle.st_climb.proofs.StepsUp.{came, ended, goes_on, long}
use Rattle.st_void.proofs.climb.is_above.Goals as goal

pub returns-in-None : goal.returns-in-None
returns-in-None c = (λ e. cc, λ r. absurd (ended (above_shown c.args.when c.args.change.now) c.args.from c.args.to c.climb.steps c.climb.here c.climb.invariant (sym c.above.ensures ∙ c.in-None.is) r))

pub returns-then-is_same_node : goal.returns-then-is_same_node
returns-then-is_same_node c = (λ e. came (above_shown c.args.when c.args.change.now) c.args.from c.args.to c.climb.steps c.climb.here c.climb.invariant c.in-Some.next (sym c.above.ensures ∙ c.in-Some.is) (same_node-true c.in-Some.next c.args.to (sym c.is_same_node.ensures ∙ c.if-is_same_node.true)), λ r. refl)

pub climb-preserved : goal.climb-preserved
climb-preserved c = goes_on (above_shown c.args.when c.args.change.now) c.args.from c.args.to c.climb.steps c.climb.here c.climb.invariant c.in-Some.next _ (omega arith) (sym c.above.ensures ∙ c.in-Some.is)
    (λ e. true-false (c.is_same_node.ensures ∙ ap (λ n. same_node n c.args.to) e ∙ same_node-itself c.args.to) c.if-is_same_node.false)

pub returns : goal.returns
returns c = (λ e. cc, λ r. absurd (long (above_shown c.args.when c.args.change.now) c.args.from c.args.to c.climb.steps c.climb.here c.climb.invariant (all_above c.args.change.now) (is_above_some c.args.when c.args.change.now) (omega (arith, count_above c.args.change.now, c.climb-test.false, c.len.ensures, c.len-2.ensures)) r))
