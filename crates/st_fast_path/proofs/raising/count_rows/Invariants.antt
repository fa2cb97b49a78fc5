use Rattle.st_fast_path.specs.inside.Counted.{AreCountedTo}
use Rattle.st_fast_path.proofs.raising.count_rows.Given as goal

abbrev pub invariant-loop-place : goal.invariant-loop-place
invariant-loop-place l = AreCountedTo l.beside l.other l.initial.rows l.place l.rows
