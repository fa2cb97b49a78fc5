use Rattle.std.proofs.Common.{subst, sym}
use Rattle.st_marks.specs.Listings.{listing_before_step}
use Rattle.st_turn_places.specs.Rules.{ArePlaces}
use Rattle.st_turn_places.proofs.ShownPlaces.{found_told}
use Rattle.st_turn_places.proofs.places.places_before.Goals as goal

pub returns : goal.returns
returns c = subst (λ l. ArePlaces l (listing_before_step c.args.step.now)) (sym c.in_ok-list.ensures) (found_told c.args.step.now c.requires.rows c.requires.regs)
