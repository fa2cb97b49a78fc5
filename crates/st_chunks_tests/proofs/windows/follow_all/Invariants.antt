use Rattle.std.proofs.Common.{◌<◌}
use Rattle.std.specs.List.{All}
use Rattle.st_window.specs.declared.kept.Kept.{Kept}
use Rattle.st_chunks_tests.proofs.windows.follow_all.Given as goal

abbrev pub invariant-loop-n : goal.invariant-loop-n
invariant-loop-n l = record {
  floor : l.window.floor < l.n;
  last : All (λ (k : Kept). k.n < l.n) l.window.kept;
}
