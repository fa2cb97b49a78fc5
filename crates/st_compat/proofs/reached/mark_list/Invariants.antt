-- the names so far are marked where the list has them
use Rattle.std.proofs.Common.{◌≡◌, ◌-◌, length}
use Rattle.st_compat.specs.inside.Marks.{IsMarkedBelow}
use Rattle.st_compat.proofs.reached.mark_list.Given as goal

abbrev pub invariant-names : goal.invariant-names
invariant-names l = record {
  long : length l.marks ≡ 256;
  so_far : IsMarkedBelow l.schema l.types l.initial.marks l.marks l.i;
}

abbrev pub decreases-names : goal.decreases-names
decreases-names l = length l.schema.types - l.i
