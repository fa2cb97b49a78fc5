use Rattle.std.proofs.Common.{◌<◌, ◌+◌, ◌^◌, ◌∙◌, arith, rules}
use Rattle.st_chunks.proofs.Walks.{blocks_more, fulls_more, more_fewer, more_short}
use Rattle.st_chunks.proofs.group.count_of.Goals as goal

pub overflow_add-slots : goal.overflow_add-slots
overflow_add-slots c =
    let a = more_short c.args.blocks.now c.loop-block.block-index c.loop-block.slots c.len.result c.block-item.result c.loop-block-test.true c.block-item.is c.loop-block.invariant.slots c.len.ensures in
    let h : c.loop-block.slots + c.len.result < 2 ^ 64 = omega (arith, a, c.requires) in
    search rules

pub overflow_add-full : goal.overflow_add-full
overflow_add-full c =
    let a = more_fewer c.args.blocks.now c.loop-block.block-index c.loop-block.full c.from-full.result c.block-item.result c.loop-block-test.true c.block-item.is c.loop-block.invariant.full (c.from-full.ensures ∙ c.full_len.ensures) in
    let h : c.loop-block.full + c.from-full.result < 2 ^ 64 = omega (arith, a, c.requires) in
    search rules

pub loop-block-preserved : goal.loop-block-preserved
loop-block-preserved c = record {
  slots = blocks_more c.args.blocks.now c.loop-block.block-index c.loop-block.slots c.len.result c.block-item.result c.loop-block-test.true c.block-item.is c.loop-block.invariant.slots c.len.ensures;
  full = fulls_more c.args.blocks.now c.loop-block.block-index c.loop-block.full c.from-full.result c.block-item.result c.loop-block-test.true c.block-item.is c.loop-block.invariant.full (c.from-full.ensures ∙ c.full_len.ensures);
}
