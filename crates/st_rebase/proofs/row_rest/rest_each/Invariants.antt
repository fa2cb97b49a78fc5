use Rattle.std.proofs.Common.{◌≡◌, map, take}
use Rattle.std.specs.BTreeSet.{contains}
use Rattle.st_ids.specs.Order.{node_cmp}
use Rattle.st_rebase.specs.inside.Marks.{rest_of}
use Rattle.st_rebase.proofs.row_rest.rest_each.Given as goal

abbrev pub invariant-loop-mark : goal.invariant-loop-mark
invariant-loop-mark l = l.rest ≡ map (rest_of (contains node_cmp l.named)) (take l.mark-index l.marks)
