use Rattle.std.proofs.Common.{◌≡◌, ◌++◌}
use Rattle.std.specs.BTreeMap.{get}
use Rattle.std.specs.BTreeSet.{contains}
use Rattle.std.specs.List.{filter_map}
use Rattle.st_ids.specs.Order.{node_cmp}
use Rattle.st_over.specs.inside.Registers.{register_beside}
use Rattle.st_over.proofs.registers.registers_beside.Given as goal

-- what is listed, and what is left to be gone through
abbrev pub invariant-loop-field : goal.invariant-loop-field
invariant-loop-field l = l.list ++ filter_map (register_beside (get node_cmp l.puts) (contains node_cmp l.named) l.change l.step) l.field-iterator ≡ filter_map (register_beside (get node_cmp l.puts) (contains node_cmp l.named) l.change l.step) l.fields.keys
