use Rattle.std.proofs.Common.{sym}
use Rattle.st_agree.specs.inside.Rows.{register_apart}
use Rattle.st_clash.proofs.LeastFields.{flat_more}
use Rattle.st_agree.proofs.registers.push_registers.Goals as goal

pub loop-register-preserved : goal.loop-register-preserved
loop-register-preserved c =
    flat_more (register_apart c.args.others.now) c.args.found.now c.loop-register.found c.push_register.new.found c.args.registers.now c.loop-register.register-index
    c.register-item.result c.register-item.result c.loop-register-test.true (sym c.register-item.is) c.loop-register.invariant c.in_ok-push_register.ensures
