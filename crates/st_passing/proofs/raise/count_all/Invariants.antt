use Rattle.std.proofs.Common.{◌≡◌, ◌<◌, ◌+◌, ◌^◌, length}
use Rattle.st_marks.specs.Listings.{cells_made}
use Rattle.st_marks.specs.Row.{spread}
use Rattle.st_rows.specs.Merged.{IsMerged}
use Rattle.st_passing.specs.Raising.{with_counts_by}
use Rattle.st_passing.proofs.raise.count_all.Given as goal

abbrev pub invariant-loop-rest : goal.invariant-loop-rest
invariant-loop-rest l = record {
  whole : with_counts_by l.among l.place (spread l.marks) (spread l.rest) ≡ with_counts_by l.among 0 (spread l.initial.marks) (spread l.other);
  room : length (spread l.marks) + length (cells_made (spread l.rest)) < 2 ^ 32;
  merged : IsMerged l.initial.marks → IsMerged l.marks;
  places : l.place + length (spread l.rest) < 2 ^ 32;
}

abbrev pub decreases-loop-rest : goal.decreases-loop-rest
decreases-loop-rest l = length l.rest
