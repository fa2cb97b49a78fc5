use Rattle.std.proofs.Common.{◌≡◌, map, take}
use Rattle.std.specs.BTreeSet.{contains}
use Rattle.st_ids.specs.Order.{node_cmp}
use Rattle.st_revert.specs.inside.ReadBack.{mark_back}
use Rattle.st_revert.proofs.reversal.marks_back.Given as goal

abbrev pub invariant-loop-reg : goal.invariant-loop-reg
invariant-loop-reg l = l.list ≡ map (mark_back (contains node_cmp l.new)) (take l.reg-index l.regs)
