-- the names that are left are those of the members that are left
use Rattle.std.proofs.Common.{◌≡◌, map}
use Rattle.serde_json.specs.View.{members_view}
use Rattle.st_mark_reader.specs.Reading.{has_names}
use Rattle.st_mark_reader.proofs.values.has_names.Given as goal

abbrev pub invariant-loop-key : goal.invariant-loop-key
invariant-loop-key l = record {
  can : (goal.iterator-loop-key).can_next l.key-iterator;
  finite : (goal.iterator-loop-key).is_finite l.key-iterator;
  named : has_names (map (λ n. n.now) l.left) (members_view l.key-iterator) ≡ has_names (map (λ n. n.now) l.fn.names) (members_view l.fn.members.entries);
}
