use Rattle.std.proofs.Common.{◌≡◌, map, take}
use Rattle.st_effect.specs.inside.Done.{loose_done}
use Rattle.st_effect.proofs.loose.all_loose_done.Given as goal

abbrev pub invariant-loop-one : goal.invariant-loop-one
invariant-loop-one l = l.all ≡ map (loose_done l.void) (take l.one-index l.loose)
