use Rattle.std.proofs.Common.{subst}
use Rattle.st_marks.specs.declared.verdicts.Verdict.{Verdict}
use Rattle.st_marks.specs.Verdict.{IsVerdict}
use Rattle.st_marks.proofs.OneVerdict.{one_run}
use Rattle.st_line_laws.proofs.Undone.{undoing_seen, undoing_sound, whole}
use Rattle.st_line_laws.proofs.laws.last_undoing_is_seen.Goals as goal

pub returns : goal.returns
returns c = record {
  verdict = λ O D E Ns N B fresh sound turn once before now u. subst (λ F. IsVerdict F B Verdict.Sound) (one_run (whole O D Ns N B fresh sound turn once before u) now) (undoing_sound O D Ns N B fresh sound turn once before u);
  text = λ is_array O D F Ns N B fresh text sound turn once before u r. undoing_seen O D Ns N B fresh sound turn once before u is_array F text r;
}
