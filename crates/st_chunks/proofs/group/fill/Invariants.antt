use Rattle.std.proofs.Common.{◌-◌, length}
use Rattle.st_chunks.specs.inside.Groups.{AreGroups}
use Rattle.st_chunks.proofs.group.fill.Given as goal

abbrev pub invariant-groups : goal.invariant-groups
invariant-groups l = AreGroups l.groups.items l.blocks

abbrev pub decreases-groups : goal.decreases-groups
decreases-groups l = l.most - length l.groups.items
