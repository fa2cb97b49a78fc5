-- the types so far whose nodes have a row
use Rattle.std.proofs.Common.{◌≡◌, ◌≤◌, ◌-◌, length}
use Rattle.st_plain_schemas.proofs.Arrays.{arrays_before}
use Rattle.st_plain_schemas.proofs.known.array_types.Given as goal

abbrev pub invariant-types : goal.invariant-types
invariant-types l = record {
  so_far : l.types ≡ arrays_before l.schema l.i;
  within : l.i ≤ length l.schema.types;
}

abbrev pub decreases-types : goal.decreases-types
decreases-types l = length l.schema.types - l.i
