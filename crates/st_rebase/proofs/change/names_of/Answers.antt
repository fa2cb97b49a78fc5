use Rattle.std.proofs.Common.{ap}
use Rattle.st_marks.specs.declared.changes.NewNode.{NewNode}
use Rattle.st_rebase.proofs.RestMarks.{each_more}
use Rattle.st_rebase.proofs.change.names_of.Goals as goal

pub loop-one-preserved : goal.loop-one-preserved
loop-one-preserved c = each_more (λ (m : NewNode). m.node) c.args.new.now c.loop-one.one-index c.one-item.result c.loop-one.names c.push.new.self c.one-item.result.node
    c.loop-one-test.true c.loop-one.invariant (ap (λ (m : NewNode). m.node) c.one-item.is) c.in_ok-push.ensures.ok
