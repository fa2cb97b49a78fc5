use Rattle.std.proofs.Common.{◌≡◌, ◌++◌, take}
use Rattle.std.specs.BTreeSet.{contains}
use Rattle.std.specs.List.{flat_map}
use Rattle.st_ids.specs.Order.{node_cmp}
use Rattle.st_agree_turn.specs.inside.Registers.{register_apart}
use Rattle.st_agree_turn.proofs.registers.push_all.Given as goal

abbrev pub invariant-loop-register : goal.invariant-loop-register
invariant-loop-register l = l.found ≡ l.initial.found ++ flat_map (register_apart l.left.regs.now (contains node_cmp l.left.made.now)) (take l.register-index l.registers)
