use Rattle.std.proofs.Common.{get_or, refl, sym}
use Rattle.std.specs.BTreeSet.{contains}
use Rattle.st_ids.specs.Order.{node_cmp}
use Rattle.st_lemmas.proofs.Bools.{or-false}
use Rattle.st_climb.proofs.GrownSets.{added_one}
use Rattle.st_ids.specs.Root.{root}
use Rattle.st_climb.proofs.sets.add_all.Goals as goal

pub loop-node-init : goal.loop-node-init
loop-node-init c = λ n. sym (or-false (contains node_cmp c.args.set.now n))

pub loop-node-preserved : goal.loop-node-preserved
loop-node-preserved c = λ n.
    added_one (contains node_cmp c.args.set.now n) (contains node_cmp c.loop-node.set n) (contains node_cmp c.add_one.new.set n) n
    c.args.nodes.now c.loop-node.node-index root (get_or c.args.nodes.now c.loop-node.node-index root) c.loop-node-test.true refl
    (c.loop-node.invariant n) (c.in_ok-add_one.ensures n)
