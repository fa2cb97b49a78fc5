-- the definitions so far are in the table, and their names are distinct
use Rattle.std.proofs.Common.{◌≡◌, ◌++◌, true}
use Rattle.std.specs.Vec.Iter.{into_iter_items}
use Rattle.st_schema.specs.Schema.{is_distinct, type_names}
use Rattle.st_schema.proofs.table.table_of.Given as goal

abbrev pub invariant-loop-name : goal.invariant-loop-name
invariant-loop-name l = record {
  can : (goal.iterator-loop-name).can_next l.name-iterator;
  finite : (goal.iterator-loop-name).is_finite l.name-iterator;
  all : l.types.entries ++ into_iter_items l.name-iterator ≡ l.fn.definitions;
  distinct : is_distinct (type_names l.types.entries) ≡ true;
}
