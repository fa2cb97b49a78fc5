use Rattle.std.proofs.Common.{ap}
use Rattle.st_marks.specs.declared.verdicts.Verdict.{Verdict}
use Rattle.st_marks.specs.Verdict.{carried_document}
use Rattle.st_marks.proofs.OneVerdict.{one_verdict}
use Rattle.st_line_laws.proofs.Transacted.{fits_there, sound_there}
use Rattle.st_line_laws.proofs.laws.transactions_are_sound.Goals as goal

pub returns : goal.returns
returns c = record {
  fits = λ D s rev edits K sound schema e. fits_there D s rev sound schema e;
  verdict = λ D s rev edits K sound schema e. sound_there D s rev sound schema e;
  carried = λ D s rev edits K v sound schema e is. ap (λ w. carried_document w D K) (one_verdict D K v Verdict.Sound is (sound_there D s rev sound schema e));
}
