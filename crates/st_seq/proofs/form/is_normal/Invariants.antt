use Rattle.std.proofs.Common.{◌≡◌, length}
use Rattle.st_seq.specs.inside.NormalForm.{is_normal}
use Rattle.st_seq.proofs.form.is_normal.Given as goal

abbrev pub invariant-marks : goal.invariant-marks
invariant-marks l = is_normal l.marks ≡ is_normal l.rest

abbrev pub decreases-marks : goal.decreases-marks
decreases-marks l = length l.rest
