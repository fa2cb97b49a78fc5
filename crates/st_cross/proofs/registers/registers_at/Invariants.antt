use Rattle.std.proofs.Common.{◌≡◌, ◌++◌}
use Rattle.std.specs.BTreeMap.{get}
use Rattle.std.specs.BTreeSet.{contains}
use Rattle.std.specs.List.{filter_map}
use Rattle.st_ids.specs.Order.{node_cmp}
use Rattle.st_cross.specs.Fields.{register_at}
use Rattle.st_cross.proofs.registers.registers_at.Given as goal

-- what is listed, and what is left to be gone through
abbrev pub invariant-loop-field : goal.invariant-loop-field
invariant-loop-field g l = l.list ++ filter_map (register_at l.across.was l.across.is (contains node_cmp l.across.made.now) (get node_cmp l.across.puts.now) l.change l.step) l.field-iterator ≡ filter_map (register_at l.across.was l.across.is (contains node_cmp l.across.made.now) (get node_cmp l.across.puts.now) l.change l.step) l.fields.keys
