-- the types so far are wider, and the rest is counted on from here
use Rattle.std.proofs.Common.{◌≡◌, ◌+◌, length}
use Rattle.st_schema.specs.Wider.{types_widen}
use Rattle.st_schema.specs.inside.Wider.{count_wider}
use Rattle.st_schema.proofs.upgrade.types_widen.Given as goal

abbrev pub invariant-loop-name : goal.invariant-loop-name
invariant-loop-name l = record {
  can : (goal.iterator-loop-name).can_next l.name-iterator;
  finite : (goal.iterator-loop-name).is_finite l.name-iterator;
  number : l.at + length l.name-iterator ≡ length l.old.entries;
  widened : count_wider l.at (types_widen l.name-iterator l.news) ≡ count_wider 0 (types_widen l.old.entries l.new.entries);
}
