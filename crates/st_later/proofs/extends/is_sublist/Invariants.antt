use Rattle.std.proofs.Common.{◌≡◌, ◌≤◌, drop, length}
use Rattle.st_later.specs.inside.Extending.{is_sublist}
use Rattle.st_later.proofs.extends.is_sublist.Given as goal

abbrev pub invariant-loop-owned : goal.invariant-loop-owned
invariant-loop-owned l = record {
  within : l.next ≤ length l.before;
  rest : is_sublist (drop l.next l.before) (drop l.owned-index l.after) ≡ is_sublist l.before l.after;
}
