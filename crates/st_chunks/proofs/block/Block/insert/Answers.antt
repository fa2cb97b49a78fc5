use Rattle.std.proofs.Common.{◌≡◌, ◌<◌, ◌+◌, ◌^◌, ap, arith, rules, length, subst}
use Rattle.st_chunks.specs.Slots.{count_full}
use Rattle.st_chunks.proofs.Counting.{at_most_one, count-insert, count-length}
use Rattle.st_chunks.proofs.block.Block.insert.Goals as goal

pub overflow_add-self : goal.overflow_add-self
overflow_add-self c =
    let v : c.args.self.now ≡ c.self.inside.slots.items = cc (c.self.view_is) in
    let n : length c.self.inside.slots.items + 1 < 2 ^ 32 = subst (λ l. length l + 1 < 2 ^ 32) v c.requires.room in
    let k = count-length c.self.inside.slots.items in
    let o = at_most_one c.args.slot.full in
    let h : c.self.inside.full + c.one_if.result < 2 ^ 32 = omega (arith, n, k, o, c.one_if.ensures, c.self.invariant) in
    search rules

pub invariant_of-self-2 : goal.invariant_of-self-2
invariant_of-self-2 c =
    let a = count-insert c.self.inside.slots.items c.args.offset c.args.slot in
    let e = ap count_full c.in_ok-insert.ensures.items in
    omega (arith, a, e, c.one_if.ensures, c.self.invariant)
