use Rattle.std.proofs.Common.{◌≡◌, map, take}
use Rattle.std.specs.BTreeSet.{contains}
use Rattle.st_ids.specs.Order.{node_cmp}
use Rattle.st_revert.specs.inside.Made.{register_made}
use Rattle.st_revert.proofs.making.registers_made.Given as goal

abbrev pub invariant-loop-reg : goal.invariant-loop-reg
invariant-loop-reg l = l.list ≡ map (register_made (contains node_cmp l.new)) (take l.reg-index l.regs)
