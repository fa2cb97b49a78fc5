-- the fields so far are marked, and those that are left are to come
use Rattle.std.proofs.Common.{◌≡◌, ◌||◌, ℕ, length}
use Rattle.st_compat.specs.Relation.{types_of_fields}
use Rattle.st_compat.specs.inside.Marks.{flag, is_named}
use Rattle.st_compat.proofs.reached.mark_fields.Given as goal

abbrev pub invariant-loop-rest : goal.invariant-loop-rest
invariant-loop-rest l = (k : ℕ) → (flag l.marks k || is_named l.schema (types_of_fields l.rest) k) ≡ (flag l.initial.marks k || is_named l.schema (types_of_fields l.fields) k)

abbrev pub decreases-loop-rest : goal.decreases-loop-rest
decreases-loop-rest l = length l.rest
