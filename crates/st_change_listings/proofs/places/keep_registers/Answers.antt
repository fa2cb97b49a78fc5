use Rattle.std.proofs.Common.{sym}
use Rattle.std.specs.BTreeMap.{get}
use Rattle.st_ids.specs.Order.{node_cmp, same_node}
use Rattle.st_lemmas.proofs.Options.{option_or-None}
use Rattle.st_puts.proofs.Firsts.{kept_more}
use Rattle.st_change_listings.specs.Places.{stood_in_register}
use Rattle.st_change_listings.proofs.places.keep_registers.Goals as goal

pub loop-reg-init : goal.loop-reg-init
loop-reg-init c = λ n. sym (option_or-None (get node_cmp c.args.spots.now n))

pub loop-reg-preserved : goal.loop-reg-preserved
unfolding same_node
loop-reg-preserved c = λ n.
    kept_more stood_in_register (get node_cmp c.args.spots.now n) (get node_cmp c.loop-reg.spots n) (get node_cmp c.keep_register.new.spots n) n
    c.args.regs.now c.loop-reg.reg-index c.reg-item.result c.reg-item.result c.loop-reg-test.true (sym c.reg-item.is)
    (c.loop-reg.invariant n) (c.in_ok-keep_register.ensures n)
