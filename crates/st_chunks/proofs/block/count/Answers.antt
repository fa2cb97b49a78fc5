use Rattle.std.proofs.Common.{◌≡◌, ◌<◌, ◌+◌, ◌^◌, ap, sym, ◌∙◌, arith, rules, suc, take, false}
use Rattle.st_ids.specs.Root.{root}
use Rattle.st_marks.specs.declared.places.Slot.{Slot}
use Rattle.st_chunks.specs.Slots.{count_full}
use Rattle.st_chunks.proofs.Counting.{count-next, count-take}
use Rattle.st_chunks.proofs.block.count.Goals as goal

pub overflow_add-full : goal.overflow_add-full
overflow_add-full c =
    let d : Slot = record { cell = record { 0 = root.0 }; node = root; full = false } in
    let n = count-next c.args.slots.now c.loop-slot.slot-index d c.loop-slot-test.true in
    let m = count-take c.args.slots.now (suc c.loop-slot.slot-index) in
    let i : c.loop-slot.full ≡ count_full (take c.loop-slot.slot-index c.args.slots.now) = c.loop-slot.invariant in
    let h : c.loop-slot.full + c.one_if-full.result < 2 ^ 32 = omega (arith, n, m, i, c.one_if-full.ensures, c.requires) in
    search rules

pub loop-slot-preserved : goal.loop-slot-preserved
loop-slot-preserved c =
    let d : Slot = record { cell = record { 0 = root.0 }; node = root; full = false } in
    let n = count-next c.args.slots.now c.loop-slot.slot-index d c.loop-slot-test.true in
    let i : c.loop-slot.full ≡ count_full (take c.loop-slot.slot-index c.args.slots.now) = c.loop-slot.invariant in
    let e : c.loop-slot.slot-index + 1 ≡ suc c.loop-slot.slot-index = omega arith in
    let h : c.loop-slot.full + c.one_if-full.result ≡ count_full (take (suc c.loop-slot.slot-index) c.args.slots.now) = omega (arith, n, i, c.one_if-full.ensures) in
    h ∙ ap (λ k. count_full (take k c.args.slots.now)) (sym e)
