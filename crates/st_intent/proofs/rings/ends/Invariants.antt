use Rattle.std.proofs.Common.{◌≡◌, ◌+◌, suc, length}
use Rattle.st_marks.specs.Intent.{above_new}
use Rattle.st_intent.specs.inside.Rules.{ends_within}
use Rattle.st_intent.proofs.rings.ends.Given as goal

abbrev pub invariant-loop-left : goal.invariant-loop-left
invariant-loop-left l = ends_within (above_new l.intent) (suc l.left) l.here ≡ ends_within (above_new l.intent) (length l.intent.new + 1) l.initial.here

abbrev pub decreases-loop-left : goal.decreases-loop-left
decreases-loop-left l = l.left
