use Rattle.std.proofs.Common.{◌+◌, length}
use Rattle.st_ids.specs.Listing.{IsRising}
use Rattle.st_listings.specs.inside.Merging.{GoesOn}
use Rattle.st_listings.proofs.merging.merge.Given as goal

-- what is left of both rises, and goes on from what is listed
abbrev pub invariant-items : goal.invariant-items
invariant-items g l =
    let R = g.K.Ord.cmp in
    let key = g.T.Named.key in
    IsRising R key l.first_left × IsRising R key l.second_left × GoesOn R key l.first l.second l.list l.first_left l.second_left

abbrev pub decreases-items : goal.decreases-items
decreases-items g l = length l.first_left + length l.second_left
