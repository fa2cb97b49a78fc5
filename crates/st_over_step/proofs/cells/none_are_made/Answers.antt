use Rattle.std.proofs.Common.{refl}
use Rattle.st_lemmas.proofs.Bools.{true-false}
use Rattle.st_over_step.specs.inside.Tables.{IsNotMade}
use Rattle.st_over_step.proofs.Stored.{in_all, not_in_one}
use Rattle.st_over_step.proofs.cells.none_are_made.Goals as goal

pub returns-then-not-has_none_made : goal.returns-then-not-has_none_made
returns-then-not-has_none_made c = (λ t. absurd (true-false t refl), λ h. absurd (not_in_one (IsNotMade c.args.rows.now) c.args.forest.now.rows c.values-slots-items.ensures.ordered c.loop-slots.slots-iterator c.loop-slots.invariant c.in-Some.slots.now c.next.new.self c.has_none_made.result c.in-Some.ensures.steps c.has_none_made.ensures c.if-not-has_none_made.true h))

pub returns : goal.returns
returns c = (λ t. in_all (IsNotMade c.args.rows.now) c.args.forest.now.rows c.values-slots-items.ensures.ordered c.loop-slots.slots-iterator c.loop-slots.invariant c.in-None.ensures.steps.0, λ h. refl)
