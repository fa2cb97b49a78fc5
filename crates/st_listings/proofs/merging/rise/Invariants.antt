use Rattle.std.proofs.Common.{◌↔◌, length}
use Rattle.st_ids.specs.Listing.{IsRising}
use Rattle.st_listings.proofs.merging.rise.Given as goal

abbrev pub invariant-items : goal.invariant-items
invariant-items g l = IsRising g.K.Ord.cmp g.T.Named.key l.rest ↔ IsRising g.K.Ord.cmp g.T.Named.key l.list

abbrev pub decreases-items : goal.decreases-items
decreases-items g l = length l.rest
