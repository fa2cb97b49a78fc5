use Rattle.std.proofs.Common.{List, subst, sym}
use Rattle.st_ids.specs.Listing.{IsRising}
use Rattle.st_ids.specs.Order.{field_cmp}
use Rattle.st_marks.specs.declared.marks.RegMark.{RegMark}
use Rattle.st_marks.specs.declared.marks.RegStep.{RegStep}
use Rattle.st_lean.proofs.room.have_rising_registers.Goals as goal

pub returns-then-rise : goal.returns-then-rise
returns-then-rise c = (
  λ e. (
    subst (λ (l : List RegMark). IsRising field_cmp (λ (r : RegMark). r.field) l) c.as_slice.ensures (c.rise.ensures.0 c.if-rise.true),
    subst (λ (l : List RegStep). IsRising field_cmp (λ (r : RegStep). r.field) l) c.as_slice-then-rise.ensures (c.rise-then-rise.ensures.0 e),
  ),
  λ h. c.rise-then-rise.ensures.1 (subst (λ (l : List RegStep). IsRising field_cmp (λ (r : RegStep). r.field) l) (sym c.as_slice-then-rise.ensures) h.1),
)
