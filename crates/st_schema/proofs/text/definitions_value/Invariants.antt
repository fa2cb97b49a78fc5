-- the definitions so far are written, and the keys of what is left rise
use Rattle.std.proofs.Common.{◌≡◌, ◌++◌, map, true}
use Rattle.std.specs.List.{list_all}
use Rattle.serde_json.specs.View.{view}
use Rattle.st_schema.specs.inside.Schema.{form_rises}
use Rattle.st_schema.specs.Written.{definition_data}
use Rattle.st_schema.proofs.text.definitions_value.Given as goal

abbrev pub invariant-loop-name : goal.invariant-loop-name
invariant-loop-name l = record {
  can : (goal.iterator-loop-name).can_next l.name-iterator;
  finite : (goal.iterator-loop-name).is_finite l.name-iterator;
  written : map view l.items.items ++ map definition_data l.name-iterator ≡ map definition_data l.types.entries;
  rises : list_all (λ d. form_rises d.1) l.name-iterator ≡ true;
}
