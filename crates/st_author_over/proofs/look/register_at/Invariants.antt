use Rattle.std.proofs.Common.{◌≡◌, drop}
use Rattle.st_ids.specs.Listing.{item_of}
use Rattle.st_ids.specs.Order.{field_cmp}
use Rattle.st_marks.specs.declared.marks.RegStep.{RegStep}
use Rattle.st_author_over.proofs.look.register_at.Given as goal

abbrev pub invariant-loop-reg : goal.invariant-loop-reg
invariant-loop-reg l = item_of field_cmp (λ (r : RegStep). r.field) (drop l.reg-index l.regs) l.field ≡ item_of field_cmp (λ (r : RegStep). r.field) l.regs l.field
