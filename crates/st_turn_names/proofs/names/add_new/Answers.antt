use Rattle.std.proofs.Common.{sym}
use Rattle.st_marks.specs.declared.changes.NewNode.{NewNode}
use Rattle.st_clash.proofs.LeastFields.{mapped_more}
use Rattle.st_turn_names.proofs.names.add_new.Goals as goal

pub loop-made-preserved : goal.loop-made-preserved
loop-made-preserved c =
    mapped_more (λ (x : NewNode). x.node) c.args.names.now c.loop-made.names c.push.new.self c.args.new.now c.loop-made.made-index
    c.made-item.result c.made-item.result c.loop-made-test.true (sym c.made-item.is) c.loop-made.invariant c.in_ok-push.ensures.ok
