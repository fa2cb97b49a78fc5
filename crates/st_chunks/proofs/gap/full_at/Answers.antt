use Rattle.std.proofs.Common.{refl, take, ◌<◌, ◌+◌, ◌^◌, ◌≡◌, ◌∙◌, sym, ap, arith, rules, length, get_or}
use Rattle.st_chunks.specs.Slots.{all_slots, count_full}
use Rattle.st_chunks.proofs.Found.{not_past}
use Rattle.st_chunks.proofs.Walks.{blocks_more, front_fewer, full_in_block, full_inside, fulls_more, more_short}
use Rattle.st_chunks.proofs.gap.full_at.Goals as goal

pub nth_full-requires : goal.nth_full-requires
nth_full-requires c =
    let x = c.block-item.result in
    let a = more_short c.args.blocks.now c.loop-block.block-index c.loop-block.before (length x) x c.loop-block-test.true c.block-item.is c.loop-block.invariant.before refl in
    let e : length c.as_slice.result.now ≡ length x = ap length c.as_slice.ensures in
    omega (arith, a, e, c.requires)

pub overflow_add-result : goal.overflow_add-result
overflow_add-result c =
    let x = c.block-item.result in
    let a = more_short c.args.blocks.now c.loop-block.block-index c.loop-block.before (length x) x c.loop-block-test.true c.block-item.is c.loop-block.invariant.before refl in
    let e : length c.as_slice.result.now ≡ length x = ap length c.as_slice.ensures in
    let p = full_inside c.as_slice.result.now c.loop-block.rest c.in-Ok.place c.in-Ok.ensures.ok in
    let h : c.loop-block.before + c.in-Ok.place < 2 ^ 64 = omega (arith, a, e, p, c.requires) in
    search rules

pub returns-in-Ok-clause-ok : goal.returns-in-Ok-clause-ok
returns-in-Ok-clause-ok c =
    let x = c.as_slice.result.now in
    full_in_block c.args.blocks.now c.loop-block.block-index c.args.index c.loop-block.rest c.loop-block.before c.in-Ok.place x c.loop-block-test.true
    (c.as_slice.ensures ∙ c.block-item.is ∙ ap (λ d. get_or c.args.blocks.now c.loop-block.block-index d) (sym c.as_slice.ensures)) c.loop-block.invariant.before c.loop-block.invariant.full c.in-Ok.ensures.ok

pub returns-in-Ok-clause-range : goal.returns-in-Ok-clause-range
returns-in-Ok-clause-range c =
    let x = c.block-item.result in
    let a = fulls_more c.args.blocks.now c.loop-block.block-index (count_full (all_slots (take c.loop-block.block-index c.args.blocks.now))) c.from-full.result x c.loop-block-test.true c.block-item.is refl (c.from-full.ensures ∙ c.full_len.ensures) in
    not_past (count_full (all_slots c.args.blocks.now)) c.args.index (omega (arith, a, front_fewer c.args.blocks.now (c.loop-block.block-index + 1), c.loop-block.invariant.full, c.if-rest-full.true))

pub overflow_add-before : goal.overflow_add-before
overflow_add-before c =
    let a = more_short c.args.blocks.now c.loop-block.block-index c.loop-block.before c.len.result c.block-item.result c.loop-block-test.true c.block-item.is c.loop-block.invariant.before c.len.ensures in
    let h : c.loop-block.before + c.len.result < 2 ^ 64 = omega (arith, a, c.requires) in
    search rules

pub loop-block-preserved : goal.loop-block-preserved
loop-block-preserved c =
    let x = c.block-item.result in
    let a = fulls_more c.args.blocks.now c.loop-block.block-index (count_full (all_slots (take c.loop-block.block-index c.args.blocks.now))) c.from-full.result x c.loop-block-test.true c.block-item.is refl (c.from-full.ensures ∙ c.full_len.ensures) in
    record {
      before = blocks_more c.args.blocks.now c.loop-block.block-index c.loop-block.before c.len.result x c.loop-block-test.true c.block-item.is c.loop-block.invariant.before c.len.ensures;
      full = omega (arith, a, c.loop-block.invariant.full, c.if-rest-full.false);
    }
