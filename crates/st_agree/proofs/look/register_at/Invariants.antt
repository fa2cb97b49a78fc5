use Rattle.std.proofs.Common.{◌-◌}
use Rattle.st_ids.specs.Order.{field_cmp}
use Rattle.st_ids.proofs.Orders.{field_cmp_exact, field_cmp_total}
use Rattle.st_marks.specs.declared.marks.RegStep.{RegStep}
use Rattle.st_clash.proofs.ItemSearch.{IsBetween}
use Rattle.st_agree.proofs.look.register_at.Given as goal

abbrev pub invariant-loop-low : goal.invariant-loop-low
invariant-loop-low l = IsBetween field_cmp field_cmp_total field_cmp_exact (λ (r : RegStep). r.field) l.regs l.field l.low l.high

abbrev pub decreases-loop-low : goal.decreases-loop-low
decreases-loop-low l = l.high - l.low
