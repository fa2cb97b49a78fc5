-- the commits so far stand behind those of before
use Rattle.std.proofs.Common.{◌≡◌, ◌++◌, map, take}
use Rattle.st_ahead.specs.inside.Lists.{ahead_of}
use Rattle.st_ahead.proofs.lag.push_kept.Given as goal

abbrev pub invariant-loop-one : goal.invariant-loop-one
invariant-loop-one l = l.ahead ≡ l.initial.ahead ++ map ahead_of (take l.one-index l.kept)
