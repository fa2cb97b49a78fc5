use Rattle.std.proofs.Common.{sym}
use Rattle.st_effect.proofs.rows.marks_done.Goals as goal

pub returns-then-void : goal.returns-then-void
returns-then-void c = rw c.if-void.true (rw (sym (c.is_among-in_new.ensures c.requires.rising)) c.void_effect.ensures.marks)

pub returns-else-void : goal.returns-else-void
returns-else-void c = rw c.if-void.false c.effect.ensures.marks
