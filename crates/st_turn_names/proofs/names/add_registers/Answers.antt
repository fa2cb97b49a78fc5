use Rattle.std.proofs.Common.{sym}
use Rattle.st_turn_names.specs.inside.Names.{nodes_of_register}
use Rattle.st_clash.proofs.LeastFields.{flat_more}
use Rattle.st_turn_names.proofs.names.add_registers.Goals as goal

pub loop-register-preserved : goal.loop-register-preserved
loop-register-preserved c =
    flat_more nodes_of_register c.args.names.now c.loop-register.names c.add_register.new.names c.args.registers.now c.loop-register.register-index
    c.register-item.result c.register-item.result c.loop-register-test.true (sym c.register-item.is) c.loop-register.invariant c.in_ok-add_register.ensures
