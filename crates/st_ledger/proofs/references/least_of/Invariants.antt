-- the least so far
use Rattle.std.proofs.Common.{◌≡◌, take}
use Rattle.st_ledger.specs.inside.Least.{least_of}
use Rattle.st_ledger.proofs.references.least_of.Given as goal

abbrev pub invariant-loop-one : goal.invariant-loop-one
invariant-loop-one l = l.least ≡ least_of (take l.one-index l.connected) l.known l.number
