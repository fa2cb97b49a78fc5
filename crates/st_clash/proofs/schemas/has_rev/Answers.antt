use Rattle.std.proofs.Common.{sym, ◌∙◌}
use Rattle.st_clash.proofs.InEffect.{rev-here, rev-not-yet}
use Rattle.st_clash.proofs.schemas.has_rev.Goals as goal

pub returns-then-is_same_rev : goal.returns-then-is_same_rev
returns-then-is_same_rev c = sym (rev-here c.args.entries.now c.args.rev c.loop-entry.entry-index c.entry-item.result c.loop-entry-test.true (sym c.entry-item.is) (sym c.is_same_rev.ensures ∙ c.if-is_same_rev.true))

pub loop-entry-preserved : goal.loop-entry-preserved
loop-entry-preserved c = rev-not-yet c.args.entries.now c.args.rev c.loop-entry.entry-index c.entry-item.result c.loop-entry-test.true (sym c.entry-item.is) (sym c.is_same_rev.ensures ∙ c.if-is_same_rev.false) c.loop-entry.invariant
