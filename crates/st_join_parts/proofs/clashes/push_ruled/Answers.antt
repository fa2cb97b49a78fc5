use Rattle.st_marks.specs.Listings.{listing_after_step, listing_before_step}
use Rattle.st_clash.specs.Cells.{AreCellsOnce}
use Rattle.st_turn_places.specs.Rules.{IsPlacedOnce}
use Rattle.st_agree.proofs.AllRules.{added_both}
use Rattle.st_join_parts.specs.inside.Clashes.{IsNamedApart, IsShownApart}
use Rattle.st_join_parts.proofs.clashes.push_ruled.Goals as goal

pub returns : goal.returns
returns c =
    let L = listing_after_step c.args.first.now in
    let M = listing_before_step c.args.then.now in
    added_both c.args.found.now c.push_shown.new.found c.push_named.new.found (IsShownApart L M) (IsNamedApart L M)
    ((Unit {0} × Unit {0}) × AreCellsOnce M) ((Unit {0} × Unit {0}) × IsPlacedOnce M)
    c.in_ok-push_shown.ensures c.in_ok-push_named.ensures
