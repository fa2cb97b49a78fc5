use Rattle.std.proofs.Common.{subst}
use Rattle.st_marks.specs.Back.{IsBack}
use Rattle.st_marks.specs.CarryOut.{full}
use Rattle.st_part_laws.specs.Parts.{part_by}
use Rattle.st_part_laws.proofs.Carrying.{part_of_full, stays_closed}
use Rattle.st_part_laws.proofs.Ways.{back_in_part, way_within}
use Rattle.st_part_laws.proofs.laws.parts_go_back.Goals as goal

pub returns : goal.returns
returns c = record {
  within = λ p D N rev under B x closed f w b. way_within p D N x closed f w rev under B b;
  parts = λ p D E rev under B closed w b. back_in_part p D E rev under B closed w b;
  carried = λ p D N rev under B x closed of_root f w b. subst (λ E. IsBack (part_by p D) E rev under B) (part_of_full p D N x.before closed of_root f w)
      (back_in_part p D (full D N) rev under B (stays_closed p D N x.before closed of_root f w) (way_within p D N x closed f w rev under B b) b);
}
