use Rattle.std.proofs.Common.{◌∙◌, cond, Some, None, ap}
use Rattle.std.specs.BTreeMap.{get}
use Rattle.std.specs.Option.{option_or}
use Rattle.st_ids.specs.Order.{node_cmp, same_node}
use Rattle.st_doc.proofs.start.add_place.Goals as goal

pub returns : goal.returns
unfolding same_node
returns c = λ n.
    c.in_ok-add.ensures n ∙ ap (λ s. option_or (get node_cmp c.args.place.now n) (cond (same_node c.args.flat.now.node n) (Some s) None)) c.in_ok-spot.ensures
