use Rattle.std.proofs.Common.{◌≡◌, ◌++◌, take}
use Rattle.std.specs.BTreeSet.{contains}
use Rattle.std.specs.List.{flat_map}
use Rattle.st_ids.specs.Order.{node_cmp}
use Rattle.st_part_rings.specs.inside.Links.{kept_link}
use Rattle.st_part_rings.proofs.links.push_kept.Given as goal

abbrev pub invariant-loop-placed : goal.invariant-loop-placed
invariant-loop-placed l = l.links ≡ l.initial.links ++ flat_map (kept_link (contains node_cmp l.made) (contains node_cmp l.taken)) (take l.placed-index l.places)
