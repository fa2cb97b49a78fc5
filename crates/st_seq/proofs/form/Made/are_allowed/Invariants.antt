use Rattle.std.proofs.Common.{◌≡◌, length}
use Rattle.st_marks.specs.Row.{spread}
use Rattle.st_seq.specs.inside.NormalForm.{are_allowed}
use Rattle.st_seq.proofs.form.Made.are_allowed.Given as goal

abbrev pub invariant-marks : goal.invariant-marks
invariant-marks l = are_allowed l.self.rev l.self.row.now (spread l.self.marks.now) (spread l.self.marks.now) ≡ are_allowed l.self.rev l.self.row.now (spread l.self.marks.now) (spread l.rest)

abbrev pub decreases-marks : goal.decreases-marks
decreases-marks l = length l.rest
