use Rattle.std.proofs.Common.{sym}
use Rattle.std.specs.BTreeSet.{contains}
use Rattle.st_ids.specs.Order.{node_cmp}
use Rattle.st_agree_turn.specs.inside.Registers.{register_apart}
use Rattle.st_clash.proofs.LeastFields.{flat_more}
use Rattle.st_agree_turn.proofs.registers.push_all.Goals as goal

pub loop-register-preserved : goal.loop-register-preserved
loop-register-preserved c =
    flat_more (register_apart c.args.left.now.regs.now (contains node_cmp c.args.left.now.made.now)) c.args.found.now c.loop-register.found c.push_register.new.found c.args.registers.now c.loop-register.register-index
    c.register-item.result c.register-item.result c.loop-register-test.true (sym c.register-item.is) c.loop-register.invariant c.in_ok-push_register.ensures
