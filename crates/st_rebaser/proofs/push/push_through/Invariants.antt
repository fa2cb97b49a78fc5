-- What finishes the changes from a place on, finishes all.
use Rattle.std.proofs.Common.{◌≡◌, length}
use Rattle.st_rebaser.proofs.Pushing.{GoesOn}
use Rattle.st_rebaser.proofs.push.push_through.Given as goal

abbrev pub invariant-loop-place : goal.invariant-loop-place
invariant-loop-place g l = record {
  kept : length l.changes ≡ length l.initial.changes;
  goes_on : GoesOn g.R.Carrier.listed l.initial.changes l.initial.verdicts l.initial.step l.place l.changes l.verdicts l.step;
}
