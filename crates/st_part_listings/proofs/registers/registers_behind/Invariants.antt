use Rattle.std.proofs.Common.{◌≡◌, map, take}
use Rattle.st_ids.specs.Listing.{item_of}
use Rattle.st_ids.specs.Order.{field_cmp}
use Rattle.st_marks.specs.declared.marks.RegMark.{RegMark}
use Rattle.st_part_listings.specs.Together.{goes_of, register_behind}
use Rattle.st_part_listings.proofs.registers.registers_behind.Given as goal

abbrev pub invariant-loop-reg : goal.invariant-loop-reg
invariant-loop-reg l = l.regs ≡ map (λ (r : RegMark). register_behind (goes_of l.tables) (item_of field_cmp (λ (q : RegMark). q.field) l.first r.field) r) (take l.reg-index l.second)
