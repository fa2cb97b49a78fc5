-- no marked type so far fails
use Rattle.std.proofs.Common.{◌-◌, length}
use Rattle.st_compat.specs.inside.Marks.{PassesBelow}
use Rattle.st_compat.proofs.relation.passes.Given as goal

abbrev pub invariant-types : goal.invariant-types
invariant-types l = PassesBelow l.marks l.stored l.view l.i

abbrev pub decreases-types : goal.decreases-types
decreases-types l = length l.stored.types - l.i
