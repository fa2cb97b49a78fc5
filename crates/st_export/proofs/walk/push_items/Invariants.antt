use Rattle.std.proofs.Common.{◌≡◌, ◌++◌, take}
use Rattle.st_marks.specs.LiveTree.{owners_shown}
use Rattle.st_export.proofs.walk.push_items.Given as goal

abbrev pub invariant-loop-place : goal.invariant-loop-place
invariant-loop-place l = l.nodes.items ≡ l.initial.nodes.items ++ owners_shown (take l.place l.row)
