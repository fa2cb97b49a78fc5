use Rattle.std.proofs.Common.{◌≡◌, map, take}
use Rattle.st_part_listings.specs.Together.{goes_of, loose_before}
use Rattle.st_part_listings.proofs.nodes.all_before.Given as goal

abbrev pub invariant-loop-one : goal.invariant-loop-one
invariant-loop-one l = l.list ≡ map (loose_before (goes_of l.tables)) (take l.one-index l.loose)
