-- Where a change leaves nodes, as the step tells it.
use Rattle.std.proofs.Common.{subst, List}
use Rattle.st_marks.specs.declared.changes.Change.{Change}
use Rattle.st_marks.specs.Listings.{listing_after_change, listing_after_step, names_of_step}
use Rattle.st_turn_places.specs.declared.places.Placed.{Placed}
use Rattle.st_turn_places.specs.Rules.{ArePlaces}
use Rattle.st_part_rings.specs.Told.{step_of}
use Rattle.st_part_rings.proofs.ToldListings.{places_told, same_after, told_places}

pub left_places : (C : Change) (l : List Placed) → ArePlaces l (listing_after_step (step_of C)) → ArePlaces l (listing_after_change C)
left_places C l h p =
    let w = subst (ArePlaces l) (same_after C) h p in
    (λ i. places_told (listing_after_change C) (names_of_step (step_of C)) p.node p.spot (w.0 i), λ j. w.1 (told_places (listing_after_change C) (names_of_step (step_of C)) p.node p.spot j))
