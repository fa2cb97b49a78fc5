use Rattle.st_marks.specs.CarryOut.{full}
use Rattle.st_marks.specs.declared.verdicts.Verdict.{Verdict}
use Rattle.st_marks.proofs.OneVerdict.{carried_extends}
use Rattle.st_line_laws.proofs.BackSeen.{same_text, sound_after}
use Rattle.st_line_laws.proofs.laws.undoing_is_seen.Goals as goal

pub returns : goal.returns
returns c = record {
  verdict = λ D N B rev under s f short v b h. sound_after D (full D N) (carried_extends D N Verdict.Sound s f short v) rev under B b h;
  tree = λ is_array D N B rev under text s f short v b. same_text D (full D N) (carried_extends D N Verdict.Sound s f short v) rev under B b is_array text;
}
