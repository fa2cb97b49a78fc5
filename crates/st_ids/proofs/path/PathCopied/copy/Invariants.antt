-- what is copied so far is the front of the path
use Rattle.std.proofs.Common.{◌≡◌, take}
use Rattle.st_ids.proofs.path.PathCopied.copy.Given as goal

abbrev pub invariant-loop-place : goal.invariant-loop-place
invariant-loop-place l = l.copy ≡ take l.place-index l.place-items
