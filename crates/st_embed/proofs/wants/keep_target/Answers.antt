use Rattle.std.proofs.Common.{◌∙◌, ap, cond, None, Some}
use Rattle.std.specs.BTreeMap.{get}
use Rattle.std.specs.Option.{option_or}
use Rattle.st_ids.specs.Order.{node_cmp, same_node}
use Rattle.st_embed.proofs.wants.keep_target.Goals as goal

pub returns : goal.returns
unfolding same_node
returns c = λ n. c.in_ok-keep.ensures n ∙ ap (λ t. option_or (get node_cmp c.args.targets.now n) (cond (same_node c.args.put.now.node n) (Some t) None)) c.in_ok-to.ensures
