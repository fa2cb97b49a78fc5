use Rattle.std.proofs.Common.{sym}
use Rattle.st_forest.specs.inside.Writes.{seat_in}
use Rattle.st_forest.proofs.Written.{seated_more, seated_none}
use Rattle.st_forest.proofs.seats.seat_registers.Goals as goal

pub loop-register-init : goal.loop-register-init
loop-register-init c = seated_none c.args.nodes.now

pub loop-register-preserved : goal.loop-register-preserved
loop-register-preserved c =
    seated_more (seat_in c.args.comes) c.args.registers.now c.loop-register.register-index c.register-item.result c.register-item.result c.args.nodes.now c.loop-register.nodes c.seat_register.new.nodes
    c.loop-register-test.true (sym c.register-item.is) c.loop-register.invariant c.in_ok-seat_register.ensures
