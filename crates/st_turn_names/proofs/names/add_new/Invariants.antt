use Rattle.std.proofs.Common.{◌≡◌, ◌++◌, map, take}
use Rattle.st_marks.specs.declared.changes.NewNode.{NewNode}
use Rattle.st_turn_names.proofs.names.add_new.Given as goal

abbrev pub invariant-loop-made : goal.invariant-loop-made
invariant-loop-made l = l.names ≡ l.initial.names ++ map (λ (x : NewNode). x.node) (take l.made-index l.new)
