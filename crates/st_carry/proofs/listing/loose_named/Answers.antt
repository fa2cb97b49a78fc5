use Rattle.st_carry.proofs.listing.loose_named.Goals as goal

pub returns : goal.returns
returns g c = record { names = c.in_ok-names.names; named = c.in_ok-names.ensures; ordered = c.in_ok-loose.ensures.ordered; told = c.in_ok-loose.ensures.loose }
