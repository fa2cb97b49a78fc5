use Rattle.std.proofs.Common.{◌≡◌, ◌++◌, take}
use Rattle.std.proofs.Common.{not}
use Rattle.std.specs.BTreeSet.{contains}
use Rattle.std.specs.List.{filter}
use Rattle.st_ids.specs.Order.{field_cmp}
use Rattle.st_join.proofs.lists.push_open.Given as goal

abbrev pub invariant-loop-field : goal.invariant-loop-field
invariant-loop-field l = l.list ≡ l.initial.list ++ filter (λ f. not (contains field_cmp l.cleared f)) (take l.field-index l.fields)
