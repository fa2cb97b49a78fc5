use Rattle.std.proofs.Common.{◌≡◌, ◌++◌, take}
use Rattle.st_plain_branches.proofs.branches.push_copies.Given as goal

-- the copies so far are behind the others
abbrev pub invariant-loop-intent : goal.invariant-loop-intent
invariant-loop-intent l = l.list ≡ l.initial.list ++ take l.intent-index l.intents
