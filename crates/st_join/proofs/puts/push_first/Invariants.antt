use Rattle.std.proofs.Common.{◌≡◌, ◌++◌, take}
use Rattle.std.specs.BTreeSet.{contains}
use Rattle.std.specs.List.{filter_map}
use Rattle.st_ids.specs.Order.{field_cmp, node_cmp}
use Rattle.st_join.specs.inside.Lists.{left_put}
use Rattle.st_join.proofs.puts.push_first.Given as goal

abbrev pub invariant-loop-put : goal.invariant-loop-put
invariant-loop-put l = l.puts ≡ l.initial.puts ++ filter_map (left_put (contains node_cmp l.new) (contains node_cmp l.again) (contains field_cmp l.cleared)) (take l.put-index l.first)
