use Rattle.std.proofs.Common.{◌↔◌, drop}
use Rattle.st_ids.specs.Listing.{Has}
use Rattle.st_marks.specs.Listings.{nodes_new}
use Rattle.st_over_step.proofs.owners.is_new.Given as goal

abbrev pub invariant-loop-other : goal.invariant-loop-other
invariant-loop-other l = Has (nodes_new (drop l.other-index l.new)) l.node ↔ Has (nodes_new l.new) l.node
