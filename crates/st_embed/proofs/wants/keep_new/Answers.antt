use Rattle.std.proofs.Common.{◌∙◌, ap, cond, None, Some}
use Rattle.std.specs.BTreeMap.{get}
use Rattle.std.specs.Option.{option_or}
use Rattle.st_ids.specs.Order.{node_cmp, same_node}
use Rattle.st_embed.proofs.wants.keep_new.Goals as goal

pub returns : goal.returns
unfolding same_node
returns c = λ n. c.in_ok-keep.ensures n ∙ ap (λ t. option_or (get node_cmp c.args.map.now n) (cond (same_node c.args.new.now.node n) (Some t) None)) c.in_ok-copy.ensures
