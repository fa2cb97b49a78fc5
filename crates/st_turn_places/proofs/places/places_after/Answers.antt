use Rattle.st_turn_places.proofs.ShownPlaces.{left_listed}
use Rattle.st_turn_places.proofs.places.places_after.Goals as goal

pub returns : goal.returns
returns c =
    let rest = c.in_ok-add_rest.ensures in
    left_listed c.args.step.now c.in_ok-list.list c.add_rest.new.list rest.0 c.requires.rows c.requires.regs c.in_ok-list.ensures rest.1 rest.2
