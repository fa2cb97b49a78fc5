use Rattle.std.proofs.Common.{ap, ◌∙◌, cond, None, Some, Option}
use Rattle.std.specs.BTreeMap.{get}
use Rattle.std.specs.Option.{option_or}
use Rattle.st_ids.specs.Order.{node_cmp, same_node}
use Rattle.st_ids.specs.declared.names.NodeId.{NodeId}
use Rattle.st_marks.specs.declared.places.Spot.{Spot}
use Rattle.st_doc.specs.inside.Evictions.{is_held}
use Rattle.st_doc.proofs.evictions.evict.Goals as goal

pub returns-in_ok-add-in-Some : goal.returns-in_ok-add-in-Some
unfolding same_node
returns-in_ok-add-in-Some c = λ n.
    c.in_ok-add-in-Some.ensures n ∙ ap (λ (o : Option NodeId). option_or (get node_cmp c.args.targets.now n) (cond (is_held o n) (Some Spot.Nowhere) None)) c.in-Some.ensures.value
