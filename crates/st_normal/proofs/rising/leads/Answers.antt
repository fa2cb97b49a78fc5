use Rattle.st_normal.proofs.RisingLists.{rising_first}
use Rattle.st_normal.proofs.rising.leads.Goals as goal

pub returns-in-len1-up : goal.returns-in-len1-up
returns-in-len1-up g c = rising_first g.O.Ordered.cmp g.met.O.Ordered.total g.O.Ordered.key c.args.first.now c.second-item.result c.args.rest.now c.is_before.result c.in-len1-up.len_at_least c.second-item.is c.is_before.ensures
