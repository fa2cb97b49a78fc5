use Rattle.std.proofs.Common.{◌≡◌, take}
use Rattle.std.specs.List.{filter_map}
use Rattle.st_part_listings.specs.Together.{goes_of, known_by, loose_behind}
use Rattle.st_part_listings.proofs.nodes.all_behind.Given as goal

abbrev pub invariant-loop-one : goal.invariant-loop-one
invariant-loop-one l = l.list ≡ filter_map (loose_behind (goes_of l.tables) (known_by l.tables)) (take l.one-index l.loose)
