use Rattle.std.proofs.Common.{◌≡◌, ◌&&◌, ◌||◌, Bool, true, false, not, refl, sym, ap, ◌∙◌}
use Rattle.st_ids.specs.Order.{same_node}
use Rattle.st_climb.proofs.sets.unless_in.Goals as goal

and_false : (b : Bool) → false ≡ (b && false)
and_false true = refl
and_false false = refl

or_and : (b : Bool) → (b || false) ≡ (b && true)
or_and true = refl
or_and false = refl

pub returns-then-contains : goal.returns-then-contains
returns-then-contains c = λ n. and_false (same_node c.args.node n) ∙ ap (λ b. same_node c.args.node n && not b) (sym c.if-contains.true ∙ c.contains.ensures)

pub returns-else-contains : goal.returns-else-contains
returns-else-contains c = λ n. or_and (same_node c.args.node n) ∙ ap (λ b. same_node c.args.node n && not b) (sym c.if-contains.false ∙ c.contains.ensures)
