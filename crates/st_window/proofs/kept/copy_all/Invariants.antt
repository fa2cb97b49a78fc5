use Rattle.std.proofs.Common.{◌≡◌, take}
use Rattle.st_window.proofs.kept.copy_all.Given as goal

abbrev pub invariant-loop-kept : goal.invariant-loop-kept
invariant-loop-kept l = l.copies ≡ take l.kept-index l.all
