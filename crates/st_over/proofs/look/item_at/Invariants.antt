use Rattle.std.proofs.Common.{◌-◌}
use Rattle.std.proofs.lemmas.Map.Lookups.{CmpEqualImpliesEq}
use Rattle.st_clash.proofs.ItemSearch.{IsBetween}
use Rattle.st_over.proofs.look.item_at.Given as goal

abbrev pub invariant-loop-low : goal.invariant-loop-low
invariant-loop-low g l = (e : CmpEqualImpliesEq g.K.Ord.cmp) → IsBetween g.K.Ord.cmp g.met.K.Ord.total e g.T.Named.key l.list l.name l.low l.high

abbrev pub decreases-loop-low : goal.decreases-loop-low
decreases-loop-low g l = l.high - l.low
