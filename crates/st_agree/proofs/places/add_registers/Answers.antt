use Rattle.std.proofs.Common.{sym}
use Rattle.st_marks.specs.declared.marks.RegMark.{RegMark}
use Rattle.st_agree.specs.inside.Places.{placed_held}
use Rattle.st_clash.proofs.LeastFields.{flat_more}
use Rattle.st_agree.proofs.places.add_registers.Goals as goal

pub loop-register-preserved : goal.loop-register-preserved
loop-register-preserved c =
    flat_more (λ (r : RegMark). placed_held r.field r.held) c.args.list.now c.loop-register.list c.add_held.new.list c.args.registers.now c.loop-register.register-index
    c.register-item.result c.register-item.result c.loop-register-test.true (sym c.register-item.is) c.loop-register.invariant c.in_ok-add_held.ensures
