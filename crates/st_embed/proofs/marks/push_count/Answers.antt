use Rattle.std.proofs.Common.{arith}
use Rattle.st_embed.proofs.marks.push_count.Goals as goal

pub overflow_add-k : goal.overflow_add-k
overflow_add-k c = omega (arith, c.take_count-k.ensures.within 4294967294 c.requires)
