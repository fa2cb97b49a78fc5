use Rattle.std.proofs.Common.{◌≡◌, take, cond, None}
use Rattle.std.specs.BTreeMap.{get}
use Rattle.std.specs.List.{list_any}
use Rattle.st_ids.specs.declared.names.NodeId.{NodeId}
use Rattle.st_ids.specs.Order.{node_cmp, same_node}
use Rattle.st_doc.specs.inside.Ahead.{inside_new}
use Rattle.st_doc.proofs.targets.targets_inside.Given as goal

abbrev pub invariant-loop-new : goal.invariant-loop-new
invariant-loop-new l = (n : NodeId) → get node_cmp l.kept n ≡ cond (list_any (λ m. same_node m.node n) (take l.new-index l.new-items)) (inside_new l.intent (get node_cmp l.targets n)) None
