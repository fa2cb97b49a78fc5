use Rattle.std.proofs.Common.{◌≡◌, map, take}
use Rattle.st_revert.specs.inside.Made.{loose_made}
use Rattle.st_revert.proofs.making.all_loose_made.Given as goal

abbrev pub invariant-loop-one : goal.invariant-loop-one
invariant-loop-one l = l.list ≡ map loose_made (take l.one-index l.loose)
