use Rattle.std.specs.BTreeMap.{get}
use Rattle.st_ids.specs.Order.{node_cmp}
use Rattle.st_carry.proofs.OverSteps.{over_listed}
use Rattle.st_carry.proofs.over.over_known.Goals as goal

pub returns : goal.returns
returns g c =
    over_listed g.R.Reading.listed c.args.change.now c.args.step.now c.in_ok-listing.listing c.args.across.now.was c.args.across.now.is (get node_cmp c.args.across.now.puts.now) c.requires.known c.in_ok-listing.ensures
    c.trim_step.result c.trim_step.ensures.exact c.trim_step.ensures.shown c.trim_step.ensures.thin
