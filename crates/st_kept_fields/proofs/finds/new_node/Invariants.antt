use Rattle.std.proofs.Common.{◌≡◌, drop}
use Rattle.std.specs.List.{find}
use Rattle.st_ids.specs.Order.{same_node}
use Rattle.st_marks.specs.declared.changes.NewNode.{NewNode}
use Rattle.st_marks.specs.Intent.{new_node}
use Rattle.st_kept_fields.proofs.finds.new_node.Given as goal

abbrev pub invariant-loop-new : goal.invariant-loop-new
invariant-loop-new l = find (λ (m : NewNode). same_node m.node l.node) (drop l.new-index l.new-items) ≡ new_node l.intent l.node
