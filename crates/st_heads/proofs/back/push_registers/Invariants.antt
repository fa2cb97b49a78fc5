use Rattle.std.proofs.Common.{◌≡◌, ◌++◌, take}
use Rattle.std.specs.List.{filter_map}
use Rattle.st_marks.specs.declared.intents.Put.{Put}
use Rattle.st_marks.specs.Intent.{register_of}
use Rattle.st_heads.proofs.back.push_registers.Given as goal

abbrev pub invariant-loop-put : goal.invariant-loop-put
invariant-loop-put l = l.fields ≡ l.initial.fields ++ filter_map (λ (p : Put). register_of p.to) (take l.put-index l.puts)
