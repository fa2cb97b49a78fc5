use Rattle.std.proofs.Common.{◌≡◌, ◌<◌, ◌+◌, ◌-◌, ◌^◌, ap, sym, ◌∙◌, arith, rules, length, subst, get_or}
use Rattle.st_marks.specs.declared.places.Slot.{Slot}
use Rattle.st_chunks.specs.Slots.{one_if, with_full}
use Rattle.st_chunks.proofs.Counting.{count-set, count-set-length, count-length, one_counts, set-full}
use Rattle.st_chunks.proofs.block.Block.flip.Goals as goal

pub overflow_sub-self : goal.overflow_sub-self
overflow_sub-self c =
    let v : c.args.self.now ≡ c.self.inside.slots.items = cc (c.self.view_is) in
    let w : c.args.offset < length c.self.inside.slots.items = subst (λ l. c.args.offset < length l) v c.requires.within in
    let a = one_counts c.self.inside.slots.items c.args.offset c.index.result.now w in
    let e : one_if c.index.result.now.full ≡ one_if (get_or c.self.inside.slots.items c.args.offset c.index.result.now).full = ap (λ s. one_if s.full) c.index.ensures in
    omega (arith, a, e, c.one_if.ensures, c.self.invariant)

pub overflow_add-self : goal.overflow_add-self
overflow_add-self c =
    let v : c.args.self.now ≡ c.self.inside.slots.items = cc (c.self.view_is) in
    let n : length c.self.inside.slots.items < 2 ^ 32 = subst (λ l. length l < 2 ^ 32) v c.requires.room in
    let w : c.args.offset < length c.self.inside.slots.items = subst (λ l. c.args.offset < length l) v c.requires.within in
    let r : Slot = record { cell = c.index.result.now.cell; node = c.index.result.now.node; full = c.args.full } in
    let a = count-set c.self.inside.slots.items c.args.offset r c.index.result.now w in
    let e : one_if c.index.result.now.full ≡ one_if (get_or c.self.inside.slots.items c.args.offset c.index.result.now).full = ap (λ s. one_if s.full) c.index.ensures in
    let k = count-length c.self.inside.slots.items in
    let o = count-set-length c.self.inside.slots.items c.args.offset r in
    let h : c.self.inside.full - c.one_if.result + c.one_if-2.result < 2 ^ 32 = omega (arith, a, e, k, o, n, w, c.one_if.ensures, c.one_if-2.ensures, c.self.invariant) in
    search rules

pub invariant_of-self : goal.invariant_of-self
invariant_of-self c =
    let v : c.args.self.now ≡ c.self.inside.slots.items = cc (c.self.view_is) in
    let w : c.args.offset < length c.self.inside.slots.items = subst (λ l. c.args.offset < length l) v c.requires.within in
    let r : Slot = record { cell = c.index_mut.result.now.cell; node = c.index_mut.result.now.node; full = c.args.full } in
    let a = count-set c.self.inside.slots.items c.args.offset r c.index.result.now w in
    let b = one_counts c.self.inside.slots.items c.args.offset c.index.result.now w in
    let e : one_if c.index.result.now.full ≡ one_if (get_or c.self.inside.slots.items c.args.offset c.index.result.now).full = ap (λ s. one_if s.full) c.index.ensures in
    omega (arith, a, b, e, c.one_if.ensures, c.one_if-2.ensures, c.self.invariant)

pub returns : goal.returns
returns c =
    let v : c.args.self.now ≡ c.self.inside.slots.items = cc (c.self.view_is) in
    let w : c.args.offset < length c.self.inside.slots.items = subst (λ l. c.args.offset < length l) v c.requires.within in
    set-full c.self.inside.slots.items c.args.offset c.args.full c.index_mut.result.now c.index_mut.result.now w c.index_mut.ensures.value
    ∙ ap (λ l. with_full l c.args.offset c.args.full) (sym v)
