use Rattle.std.proofs.Common.{◌≡◌, take}
use Rattle.std.specs.List.{flat_map}
use Rattle.st_part_rings.specs.inside.Links.{link_of}
use Rattle.st_part_rings.proofs.links.links_of.Given as goal

abbrev pub invariant-loop-placed : goal.invariant-loop-placed
invariant-loop-placed l = l.links ≡ flat_map link_of (take l.placed-index l.places)
