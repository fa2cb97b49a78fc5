use Rattle.std.specs.BTreeSet.{contains}
use Rattle.st_ids.specs.Order.{node_cmp}
use Rattle.st_embed.proofs.change.embed.Goals as goal

pub returns : goal.returns
returns c = c.change_with.ensures (contains node_cmp c.in_ok-mentioned.mentioned) c.in_ok-mentioned.ensures c.in_ok-fields.ensures
