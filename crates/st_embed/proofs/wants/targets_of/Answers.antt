use Rattle.std.proofs.Common.{sym}
use Rattle.std.specs.BTreeMap.{get}
use Rattle.st_ids.specs.Order.{node_cmp, same_node}
use Rattle.st_marks.specs.declared.intents.Put.{Put}
use Rattle.st_embed.proofs.Keeping.{map_more}
use Rattle.st_embed.proofs.wants.targets_of.Goals as goal

pub loop-put-preserved : goal.loop-put-preserved
loop-put-preserved c = λ n.
    map_more (λ (p : Put). same_node p.node n) (λ (p : Put). p.to) (get node_cmp c.loop-put.targets n) (get node_cmp c.keep_target.new.targets n)
    c.as_slice-put-items.result.now c.loop-put.put-index c.put-item.result c.put-item.result c.loop-put-test.true (sym c.put-item.is)
    (c.loop-put.invariant n) (c.in_ok-keep_target.ensures n)
