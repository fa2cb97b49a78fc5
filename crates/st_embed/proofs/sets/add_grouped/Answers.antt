use Rattle.std.proofs.Common.{sym, ◌∙◌}
use Rattle.std.specs.BTreeSet.{contains}
use Rattle.st_ids.specs.Order.{node_cmp, same_node}
use Rattle.st_lemmas.proofs.Bools.{or-false}
use Rattle.st_lemmas.proofs.FirstItems.{found_more}
use Rattle.st_marks.specs.declared.intents.Group.{Group}
use Rattle.st_embed.proofs.Keeping.{or_last}
use Rattle.st_embed.proofs.sets.add_grouped.Goals as goal

pub loop-group-init : goal.loop-group-init
loop-group-init c = λ n. sym (or-false (contains node_cmp c.args.set.now n))

pub loop-group-preserved : goal.loop-group-preserved
unfolding same_node
loop-group-preserved c = λ n.
    found_more (λ (x : Group). same_node x.node n) (contains node_cmp c.args.set.now n) (contains node_cmp c.loop-group.set n) (contains node_cmp c.add.new.set n)
    c.args.groups.now c.loop-group.group-index c.group-item.result c.group-item.result c.loop-group-test.true (sym c.group-item.is)
    (c.loop-group.invariant n) (c.in_ok-add.ensures n ∙ or_last (contains node_cmp c.loop-group.set n) (same_node c.group-item.result.node n))
