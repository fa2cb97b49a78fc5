use Rattle.std.proofs.Common.{◌≡◌, length}
use Rattle.std.specs.FinMap.Entries.{is_sorted}
use Rattle.st_ids.specs.Listing.{key_pairs}
use Rattle.st_normal.proofs.rising.rises.Given as goal

abbrev pub invariant-loop-left : goal.invariant-loop-left
invariant-loop-left g l = is_sorted g.O.Ordered.cmp (key_pairs g.O.Ordered.key l.left) ≡ is_sorted g.O.Ordered.cmp (key_pairs g.O.Ordered.key l.items)

abbrev pub decreases-loop-left : goal.decreases-loop-left
decreases-loop-left g l = length l.left
