use Rattle.std.proofs.Common.{refl, sym, ◌∙◌, subst}
use Rattle.st_ids.specs.Listing.{Has}
use Rattle.st_ids.proofs.Orders.{same_node-true}
use Rattle.st_marks.specs.declared.changes.NewNode.{NewNode}
use Rattle.st_marks.specs.Listings.{nodes_new}
use Rattle.st_marks.proofs.Members.{map-has}
use Rattle.st_over_step.proofs.Along.{has_at, not_yet}
use Rattle.st_over_step.proofs.owners.is_new.Goals as goal

pub returns-then-is_same_node : goal.returns-then-is_same_node
returns-then-is_same_node c = (λ t. subst (Has (nodes_new c.args.new.now)) (same_node-true c.other-item.result.node c.args.node (sym c.is_same_node.ensures ∙ c.if-is_same_node.true)) (map-has (λ (m : NewNode). m.node) c.args.new.now c.other-item.result (has_at c.args.new.now c.loop-other.other-index c.other-item.result c.loop-other-test.true c.other-item.is)), λ h. refl)

pub loop-other-preserved : goal.loop-other-preserved
loop-other-preserved c =
    not_yet c.args.new.now c.loop-other.other-index c.other-item.result c.args.node c.is_same_node.result c.loop-other-test.true c.other-item.is c.is_same_node.ensures c.if-is_same_node.false c.loop-other.invariant
