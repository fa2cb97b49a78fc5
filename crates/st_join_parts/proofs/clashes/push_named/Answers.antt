use Rattle.st_marks.specs.Listings.{listing_after_step, listing_before_step}
use Rattle.st_turn_names.specs.Rules.{NodesAgain, OwnersEarly}
use Rattle.st_turn_places.specs.Rules.{IsPlacedOnce, NodesTwice}
use Rattle.st_join_parts.proofs.Rules.{added_three}
use Rattle.st_join_parts.proofs.clashes.push_named.Goals as goal

pub returns : goal.returns
returns c =
    let L = listing_after_step c.args.first.now in
    let M = listing_before_step c.args.then.now in
    added_three c.args.found.now c.push_made.new.found c.push_owners.new.found c.push_twice.new.found (NodesAgain L M) (OwnersEarly L M) (NodesTwice L M) (Unit {0}) (Unit {0}) (IsPlacedOnce M)
    c.in_ok-push_made.ensures c.in_ok-push_owners.ensures c.in_ok-push_twice.ensures
