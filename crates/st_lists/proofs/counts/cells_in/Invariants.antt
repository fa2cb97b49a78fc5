-- the cells of the groups so far, as far as they can be counted
use Rattle.std.proofs.Common.{◌≡◌, ◌-◌, ◌^◌, min, length, take}
use Rattle.std.specs.List.{flat_map}
use Rattle.st_marks.specs.declared.intents.Group.{Group}
use Rattle.st_lists.proofs.counts.cells_in.Given as goal

abbrev pub invariant-loop-group : goal.invariant-loop-group
invariant-loop-group l = l.count ≡ min (length (flat_map (λ (g : Group). g.cells) (take l.group-index l.groups))) (2 ^ 64 - 1)
