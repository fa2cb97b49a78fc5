use Rattle.std.proofs.Common.{◌<◌, ◌+◌, ◌^◌, arith, rules}
use Rattle.st_chunks.proofs.Found.{drop_shorter}
use Rattle.st_chunks.proofs.splice.splice_at.Goals as goal

pub overflow_add-from : goal.overflow_add-from
overflow_add-from c =
    let d = drop_shorter c.args.blocks.now.items c.args.from.block in
    let h : c.args.from.offset + c.args.count < 2 ^ 64 = omega (arith, d, c.requires.count, c.requires.short) in
    search rules
