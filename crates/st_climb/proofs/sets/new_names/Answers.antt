use Rattle.std.proofs.Common.{false, sym}
use Rattle.std.specs.BTreeSet.{contains}
use Rattle.st_ids.specs.Order.{node_cmp}
use Rattle.st_marks.specs.declared.changes.NewNode.{NewNode}
use Rattle.st_climb.proofs.GrownSets.{added_mapped}
use Rattle.st_climb.proofs.sets.new_names.Goals as goal

pub loop-made-preserved : goal.loop-made-preserved
loop-made-preserved c = λ n.
    added_mapped (λ (m : NewNode). m.node) false (contains node_cmp c.loop-made.set n) (contains node_cmp c.add_one.new.set n) n
    c.args.new.now c.loop-made.made-index c.made-item.result c.made-item.result c.loop-made-test.true (sym c.made-item.is)
    (c.loop-made.invariant n) (c.in_ok-add_one.ensures n)
