use Rattle.std.proofs.Common.{◌≡◌, ◌++◌, take}
use Rattle.std.proofs.Common.{not}
use Rattle.std.specs.BTreeSet.{contains}
use Rattle.std.specs.List.{filter}
use Rattle.st_join.specs.inside.Places.{place_cmp}
use Rattle.st_join.proofs.groups.push_others.Given as goal

abbrev pub invariant-loop-group : goal.invariant-loop-group
invariant-loop-group l = l.list ≡ l.initial.list ++ filter (λ g. not (contains place_cmp l.taken (g.node, g.after))) (take l.group-index l.groups)
