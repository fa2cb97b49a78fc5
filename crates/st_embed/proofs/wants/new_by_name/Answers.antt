use Rattle.std.proofs.Common.{sym, None, refl}
use Rattle.std.specs.BTreeMap.{get}
use Rattle.st_ids.specs.Order.{node_cmp, same_node}
use Rattle.st_marks.specs.declared.changes.NewNode.{NewNode}
use Rattle.st_doc.proofs.Look.{added_more}
use Rattle.st_embed.proofs.wants.new_by_name.Goals as goal

pub loop-new-preserved : goal.loop-new-preserved
loop-new-preserved c = λ n.
    added_more (λ (m : NewNode). same_node m.node n) None (get node_cmp c.loop-new.map n) (get node_cmp c.keep_new.new.map n)
    c.as_slice-new-items.result.now c.loop-new.new-index c.new-item.result c.new-item.result c.new-item.result c.loop-new-test.true (sym c.new-item.is) refl
    (c.loop-new.invariant n) (c.in_ok-keep_new.ensures n)
