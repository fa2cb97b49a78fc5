-- the texts so far, each with a comma before it
use Rattle.std.proofs.Common.{◌≡◌, ◌++◌, codes, take}
use Rattle.std.specs.List.{flat_map}
use Rattle.st_script.proofs.answer.push_others.Given as goal

abbrev pub invariant-loop-text : goal.invariant-loop-text
invariant-loop-text l = l.line ≡ l.initial.line ++ flat_map (λ t. codes "," ++ t) (take l.text-index l.texts)
