use Rattle.std.proofs.Common.{◌≡◌, take}
use Rattle.std.specs.BTreeMap.{get}
use Rattle.std.specs.List.{flat_map}
use Rattle.std.specs.Option.{option_or}
use Rattle.st_ids.specs.Order.{node_cmp}
use Rattle.st_ids.specs.declared.names.NodeId.{NodeId}
use Rattle.st_puts.specs.inside.First.{first_at}
use Rattle.st_marks.specs.declared.marks.RegMark.{RegMark}
use Rattle.st_puts.specs.inside.Puts.{into_nowhere, leaving}
use Rattle.st_puts.proofs.puts.keep_leaving.Given as goal

abbrev pub invariant-loop-reg : goal.invariant-loop-reg
invariant-loop-reg l = (n : NodeId) → get node_cmp l.puts n ≡ option_or (get node_cmp l.initial.puts n) (first_at (flat_map (λ (r : RegMark). into_nowhere (leaving r)) (take l.reg-index l.regs)) n)
