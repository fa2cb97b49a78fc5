use Rattle.std.proofs.Common.{length}
use Rattle.st_chunks.specs.Slots.{all_slots}
use Rattle.st_chunks.proofs.Found.{item_before, not_past}
use Rattle.st_chunks.proofs.gap.item_at.Goals as goal

pub returns-then-rest-size-clause-range : goal.returns-then-rest-size-clause-range
returns-then-rest-size-clause-range c =
    not_past (length (all_slots c.args.blocks.now)) c.args.place
    (item_before c.args.blocks.now c.loop-i.i c.loop-i.rest c.args.place c.len-size.result c.index-blocks-i.result c.loop-i-test.true
    c.index-blocks-i.is c.loop-i.invariant c.len-size.ensures c.if-rest-size.true)
