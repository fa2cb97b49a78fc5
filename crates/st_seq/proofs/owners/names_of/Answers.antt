use Rattle.std.proofs.Common.{◌∷◌, [], ◌++◌, ap, ◌∙◌}
use Rattle.st_seq.proofs.OwnersEarly.{nodes_on}
use Rattle.st_seq.proofs.owners.names_of.Goals as goal

pub loop-node-preserved : goal.loop-node-preserved
loop-node-preserved c = nodes_on c.args.nodes.now c.loop-node.node-index _ c.loop-node.out c.push.new.self c.loop-node-test.true c.loop-node.invariant (c.in_ok-push.ensures.ok ∙ ap (λ n. c.loop-node.out ++ n ∷ []) c.found_at.ensures)
