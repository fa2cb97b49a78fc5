use Rattle.std.proofs.Common.{◌≡◌, ◌++◌, take}
use Rattle.std.specs.BTreeSet.{contains}
use Rattle.std.specs.List.{filter_map}
use Rattle.st_ids.specs.Order.{node_cmp}
use Rattle.st_join.specs.inside.Lists.{kept_put}
use Rattle.st_join.proofs.puts.push_second.Given as goal

abbrev pub invariant-loop-put : goal.invariant-loop-put
invariant-loop-put l = l.puts ≡ l.initial.puts ++ filter_map (kept_put (contains node_cmp l.new)) (take l.put-index l.second)
