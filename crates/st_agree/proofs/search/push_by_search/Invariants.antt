use Rattle.std.proofs.Common.{◌≡◌, ◌++◌, take}
use Rattle.std.specs.List.{flat_map}
use Rattle.st_ids.specs.Listing.{item_of}
use Rattle.st_ids.specs.Order.{node_cmp}
use Rattle.st_agree.specs.declared.places.Placed.{Placed}
use Rattle.st_agree.specs.inside.Places.{apart_fields}
use Rattle.st_agree.proofs.search.push_by_search.Given as goal

abbrev pub invariant-loop-placed : goal.invariant-loop-placed
invariant-loop-placed l = l.found ≡ l.initial.found ++ flat_map (λ (p : Placed). apart_fields p (item_of node_cmp (λ (q : Placed). q.node) l.others p.node)) (take l.placed-index l.list)
