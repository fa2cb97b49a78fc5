-- the definitions so far are copied
use Rattle.std.proofs.Common.{◌≡◌, ◌++◌}
use Rattle.st_schema.proofs.table.copy_definitions.Given as goal

abbrev pub invariant-loop-name : goal.invariant-loop-name
invariant-loop-name l = record {
  can : (goal.iterator-loop-name).can_next l.name-iterator;
  finite : (goal.iterator-loop-name).is_finite l.name-iterator;
  copied : l.definitions ++ l.name-iterator ≡ l.types.entries;
}
