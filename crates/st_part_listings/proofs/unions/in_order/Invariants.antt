use Rattle.std.proofs.Common.{◌≡◌, ◌++◌}
use Rattle.std.specs.BTreeMap.{values}
use Rattle.st_part_listings.proofs.unions.in_order.Given as goal

-- what is listed, and what is left of the map
abbrev pub invariant-loop-item : goal.invariant-loop-item
invariant-loop-item g l = l.list ++ l.item-iterator ≡ values l.map
