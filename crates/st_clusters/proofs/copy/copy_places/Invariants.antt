-- what is past is copied
use Rattle.std.proofs.Common.{◌≡◌, take}
use Rattle.st_clusters.proofs.copy.copy_places.Given as goal

abbrev pub invariant-loop-list : goal.invariant-loop-list
invariant-loop-list l = l.copy.items ≡ take l.list-index l.places
