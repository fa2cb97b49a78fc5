use Rattle.std.proofs.Common.{ap, ◌∙◌}
use Rattle.std.specs.BTreeMap.{get}
use Rattle.std.specs.Option.{option_or}
use Rattle.st_ids.specs.Order.{node_cmp}
use Rattle.st_doc.proofs.carry.put_inside.Goals as goal

pub returns : goal.returns
returns c = λ n. c.in_ok-put_all.ensures n ∙ ap (λ o. option_or o (get node_cmp c.args.place.now n)) (c.in_ok-inside.ensures n)
