use Rattle.std.proofs.Common.{ap, ◌++◌, ◌∙◌}
use Rattle.st_marks.specs.Listings.{listing_after_step, listing_before_step}
use Rattle.st_turn_places.specs.inside.Twice.{found_twice}
use Rattle.st_turn_places.proofs.NodesTwice.{twice_added}
use Rattle.st_turn_places.proofs.twice.push_twice.Goals as goal

pub returns : goal.returns
returns c =
    let r = c.in_ok-push_found.ensures in
    twice_added (listing_after_step c.args.first.now) (listing_before_step c.args.then.now) c.in_ok-list.list r.0 r.1 c.in_ok-list.ensures r.2 r.3
    c.args.found.now c.push_found.new.found (r.4 ∙ ap (λ l. c.args.found.now ++ found_twice l r.0 r.1) c.as_slice.ensures)
