use Rattle.std.proofs.Common.{◌≡◌, length, take, refl, ap, arith}
use Rattle.st_chunks.specs.Slots.{all_slots}
use Rattle.st_chunks.proofs.Walks.{more_short}
use Rattle.st_chunks.proofs.chunks.count_chunks.Goals as goal

pub over_block-now-requires : goal.over_block-now-requires
over_block-now-requires c =
    let x = c.block-item.result in
    let a = more_short c.args.blocks.now c.loop-block.block-index (length (all_slots (take c.loop-block.block-index c.args.blocks.now))) (length x) x c.loop-block-test.true c.block-item.is refl refl in
    let e : length c.as_slice.result.now ≡ length x = ap length c.as_slice.ensures in
    omega (arith, a, e, c.loop-block.invariant.few, c.requires)
