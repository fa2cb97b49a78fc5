-- what is past stands once
use Rattle.std.proofs.Common.{◌≡◌, drop}
use Rattle.st_schema.specs.Schema.{is_distinct}
use Rattle.st_schema.proofs.rules.is_distinct.Given as goal

abbrev pub invariant-loop-i : goal.invariant-loop-i
invariant-loop-i l = is_distinct (drop l.i l.texts) ≡ is_distinct l.texts
