use Rattle.std.proofs.Common.{◌≡◌, ◌++◌, map, take}
use Rattle.st_marks.specs.declared.marks.Loose.{Loose}
use Rattle.st_turn_names.proofs.names.add_loose.Given as goal

abbrev pub invariant-loop-one : goal.invariant-loop-one
invariant-loop-one l = l.names ≡ l.initial.names ++ map (λ (x : Loose). x.node) (take l.one-index l.loose)
