use Rattle.std.proofs.Common.{◌≡◌, map, take}
use Rattle.std.specs.BTreeSet.{contains}
use Rattle.st_ids.specs.Order.{node_cmp}
use Rattle.st_steps.specs.WayBack.{register_back}
use Rattle.st_steps.proofs.rows_back.registers_back.Given as goal

abbrev pub invariant-loop-reg : goal.invariant-loop-reg
invariant-loop-reg l = l.list ≡ map (register_back (contains node_cmp l.new)) (take l.reg-index l.regs)
