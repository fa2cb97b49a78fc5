-- One tree by itself.
use Rattle.std.proofs.Common.{◌≡◌, ◌∙◌, nat_lt, Ok, Err, arith, cond}
use Rattle.st_tree.specs.Node.{Node, first, no_nodes}
use Rattle.st_tree.specs.Size.{node_count, item_count, height, items_height, check_of, check_items}
use Rattle.st_tree.specs.declared.limits.TreeFault.TheVariants.{TooDeep, TooMany}

same_count : (t : Node) → item_count (first t no_nodes) ≡ node_count t
same_count t = omega arith

same_height : (t : Node) → items_height (first t no_nodes) ≡ height t
same_height t = omega arith

-- it is within the limits of trees together where it is within those of one
pub one_within : (t : Node) → check_of t ≡ Ok tt → check_items (first t no_nodes) ≡ Ok tt
one_within t h = (λ i. cond (nat_lt 1024 (same_count t i)) (Err TooMany) (cond (nat_lt 48 (same_height t i)) (Err TooDeep) (Ok tt))) ∙ h
