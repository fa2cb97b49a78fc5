use Rattle.std.proofs.Common.{sym}
use Rattle.std.specs.BTreeMap.{get}
use Rattle.st_ids.specs.Order.{field_cmp}
use Rattle.st_marks.specs.declared.intents.Put.{Put}
use Rattle.st_marks.specs.Intent.{is_register}
use Rattle.st_embed.proofs.Keeping.{map_more}
use Rattle.st_embed.proofs.wants.fills_of.Goals as goal

pub loop-put-preserved : goal.loop-put-preserved
loop-put-preserved c = λ f.
    map_more (λ (p : Put). is_register f p.to) (λ (p : Put). p.node) (get field_cmp c.loop-put.fills f) (get field_cmp c.keep_fill.new.fills f)
    c.as_slice-put-items.result.now c.loop-put.put-index c.put-item.result c.put-item.result c.loop-put-test.true (sym c.put-item.is)
    (c.loop-put.invariant f) (c.in_ok-keep_fill.ensures f)
