use Rattle.std.proofs.Common.{false}
use Rattle.st_seq.proofs.Example.{stands}
use Rattle.st_algebra_tests.proofs.row_kind.over_both.Goals as goal

pub rebase_over_both-requires : goal.rebase_over_both-requires
rebase_over_both-requires c = stands _ (record { marks = c.in_ok-made.made }) (record { marks = c.in_ok-left.left }) (λ i. record { rev = record { session = 2; num = 1 }; in_new = false; new = c.in_ok-new.ensures i; marks = c.in_ok-marks.ensures i }) c.in_ok-made.ensures c.in_ok-left.ensures
