use Rattle.std.proofs.Common.{sym}
use Rattle.st_turn_places.specs.inside.Sides.{register_placed}
use Rattle.st_clash.proofs.LeastFields.{flat_more}
use Rattle.st_turn_places.proofs.places.add_registers.Goals as goal

pub loop-register-preserved : goal.loop-register-preserved
loop-register-preserved c =
    flat_more (register_placed c.args.after) c.args.list.now c.loop-register.list c.add_register.new.list c.args.registers.now c.loop-register.register-index
    c.register-item.result c.register-item.result c.loop-register-test.true (sym c.register-item.is) c.loop-register.invariant c.in_ok-add_register.ensures
