use Rattle.std.proofs.Common.{◌≡◌, take}
use Rattle.st_marks.specs.Listings.{nodes_new}
use Rattle.st_rebase.proofs.change.names_of.Given as goal

abbrev pub invariant-loop-one : goal.invariant-loop-one
invariant-loop-one l = l.names ≡ nodes_new (take l.one-index l.new)
