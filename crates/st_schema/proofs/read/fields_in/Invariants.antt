-- the fields so far, and then those of what is left
use Rattle.std.proofs.Common.{◌≡◌, ◌++◌, List}
use Rattle.std.specs.Option.{option_map}
use Rattle.serde_json.specs.View.{members_view}
use Rattle.st_schema.specs.Reading.{fields_of_members}
use Rattle.st_schema.specs.declared.names.FieldDef.{FieldDef}
use Rattle.st_schema.proofs.read.fields_in.Given as goal

abbrev pub invariant-loop-key : goal.invariant-loop-key
invariant-loop-key l = record {
  can : (goal.iterator-loop-key).can_next l.key-iterator;
  finite : (goal.iterator-loop-key).is_finite l.key-iterator;
  read : option_map (λ (fs : List FieldDef). l.fields ++ fs) (fields_of_members (members_view l.key-iterator)) ≡ fields_of_members (members_view l.fn.members.entries);
}
