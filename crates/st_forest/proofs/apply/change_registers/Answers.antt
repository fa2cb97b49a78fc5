use Rattle.std.proofs.Common.{sym}
use Rattle.std.specs.BTreeMap.{get}
use Rattle.st_ids.specs.Order.{field_cmp, same_field}
use Rattle.st_forest.specs.inside.Writes.{held_after}
use Rattle.st_forest.proofs.Written.{written_more}
use Rattle.st_forest.proofs.apply.change_registers.Goals as goal

pub loop-register-preserved : goal.loop-register-preserved
loop-register-preserved c = λ f.
    written_more same_field held_after c.args.listed.now c.loop-register.register-index c.register-item.result c.register-item.result f (get field_cmp c.loop-register.held f) (get field_cmp c.change_register.new.held f) (get field_cmp c.args.held.now f)
    c.loop-register-test.true (sym c.register-item.is) (c.loop-register.invariant f) (c.in_ok-change_register.ensures f)
