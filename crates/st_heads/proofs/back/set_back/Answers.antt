use Rattle.std.proofs.Common.{◌∙◌, sym, ap, cond}
use Rattle.std.specs.BTreeMap.{get}
use Rattle.st_ids.specs.Order.{node_cmp, same_node}
use Rattle.st_heads.proofs.back.set_back.Goals as goal

pub returns-in-None : goal.returns-in-None
returns-in-None c = λ n. c.unset.ensures n ∙ ap (λ o. cond (same_node c.args.node n) o (get node_cmp c.args.back.now n)) (sym c.in-None.is)

pub returns-in_ok-set-in-Some : goal.returns-in_ok-set-in-Some
returns-in_ok-set-in-Some c = λ n. c.in_ok-set-in-Some.ensures n ∙ ap (λ o. cond (same_node c.args.node n) o (get node_cmp c.args.back.now n)) (sym c.in-Some.is)
