-- the groups so far, and then those of the nodes that are left
use Rattle.std.proofs.Common.{◌≡◌, ◌++◌, drop}
use Rattle.std.specs.List.{filter_map}
use Rattle.st_edits.specs.New.{group_under, groups_under}
use Rattle.st_resolve.proofs.new_trees.add_groups.Given as goal

abbrev pub invariant-loop-flat : goal.invariant-loop-flat
invariant-loop-flat l = l.groups ++ filter_map (group_under l.nodes) (drop l.flat-index l.nodes) ≡ l.initial.groups ++ groups_under l.nodes
