use Rattle.std.proofs.Common.{◌≡◌, drop}
use Rattle.st_intent.specs.inside.Rules.{cells_are_distinct}
use Rattle.st_intent.proofs.groups.all_cells_distinct.Given as goal

abbrev pub invariant-loop-i : goal.invariant-loop-i
invariant-loop-i l = cells_are_distinct (drop l.i l.groups) ≡ cells_are_distinct l.groups
