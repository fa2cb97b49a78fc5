-- the causes of the types so far
use Rattle.std.proofs.Common.{◌-◌, length, take}
use Rattle.st_schema.specs.Schema.{type_names}
use Rattle.st_compat.specs.Relation.{CausesOf}
use Rattle.st_compat.proofs.relation.causes_of_types.Given as goal

abbrev pub invariant-types : goal.invariant-types
invariant-types l = CausesOf l.stored l.view (type_names (take l.i l.stored.types)) l.causes

abbrev pub decreases-types : goal.decreases-types
decreases-types l = length l.stored.types - l.i
