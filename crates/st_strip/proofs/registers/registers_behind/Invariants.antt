use Rattle.std.proofs.Common.{◌≡◌, map, take}
use Rattle.st_ids.specs.Listing.{item_of}
use Rattle.st_ids.specs.Order.{field_cmp}
use Rattle.st_marks.specs.declared.marks.RegStep.{RegStep}
use Rattle.st_strip.specs.inside.Told.{register_behind}
use Rattle.st_strip.proofs.registers.registers_behind.Given as goal

abbrev pub invariant-loop-reg : goal.invariant-loop-reg
invariant-loop-reg l = l.regs ≡ map (λ (r : RegStep). register_behind (item_of field_cmp (λ (q : RegStep). q.field) l.first r.field) r) (take l.reg-index l.whole)
