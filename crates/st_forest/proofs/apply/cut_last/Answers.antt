use Rattle.st_forest.proofs.Entries.{all_taken, cut_more}
use Rattle.st_forest.proofs.apply.cut_last.Goals as goal

pub loop-init : goal.loop-init
loop-init c = all_taken c.args.entries.now

pub loop-preserved : goal.loop-preserved
loop-preserved c = cut_more c.args.entries.now c.loop.entries c.pop.new.self c.loop.counter c.loop.invariant c.pop.ensures.front
