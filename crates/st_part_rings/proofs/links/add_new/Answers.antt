use Rattle.std.proofs.Common.{sym}
use Rattle.std.specs.BTreeSet.{contains}
use Rattle.st_ids.specs.Order.{node_cmp}
use Rattle.st_lemmas.proofs.Bools.{or-false}
use Rattle.st_marks.specs.declared.changes.NewNode.{NewNode}
use Rattle.st_climb.proofs.GrownSets.{added_mapped}
use Rattle.st_part_rings.proofs.links.add_new.Goals as goal

pub loop-made-init : goal.loop-made-init
loop-made-init c = λ n. sym (or-false (contains node_cmp c.args.set.now n))

pub loop-made-preserved : goal.loop-made-preserved
loop-made-preserved c = λ n.
    added_mapped (λ (m : NewNode). m.node) (contains node_cmp c.args.set.now n) (contains node_cmp c.loop-made.set n) (contains node_cmp c.add_one.new.set n) n
    c.args.new.now c.loop-made.made-index c.made-item.result c.made-item.result c.loop-made-test.true (sym c.made-item.is)
    (c.loop-made.invariant n) (c.in_ok-add_one.ensures n)
