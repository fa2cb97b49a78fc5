use Rattle.std.proofs.Common.{sym, ap, ◌∙◌, inl, inr}
use Rattle.st_ids.proofs.Orders.{same_node-itself, same_node-true}
use Rattle.st_ids.specs.Order.{same_node}
use Rattle.st_ids.specs.Root.{root}
use Rattle.st_lemmas.proofs.Bools.{true-false}
use Rattle.st_void.proofs.climb.is_shown_live.Goals as goal

pub returns-then-is_same_node : goal.returns-then-is_same_node
returns-then-is_same_node c = (λ e. inl (same_node-true c.args.node root (sym c.is_same_node.ensures ∙ c.if-is_same_node.true)), λ h. c.if-is_same_node.true)

pub returns-else-is_same_node : goal.returns-else-is_same_node
returns-else-is_same_node c = (
  λ e. inr (c.is_above.ensures.0 e),
  λ h. elim h [
    | inl e ↦ absurd (true-false (c.is_same_node.ensures ∙ ap (λ n. same_node n root) e ∙ same_node-itself root) c.if-is_same_node.false)
    | inr r ↦ c.is_above.ensures.1 r
  ],
)
