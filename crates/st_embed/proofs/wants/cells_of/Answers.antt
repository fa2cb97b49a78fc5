use Rattle.std.proofs.Common.{sym}
use Rattle.std.specs.BTreeMap.{get}
use Rattle.st_marks.specs.declared.intents.Group.{Group}
use Rattle.st_embed.specs.inside.Places.{is_at_place, place_cmp}
use Rattle.st_embed.proofs.Keeping.{map_more}
use Rattle.st_embed.proofs.wants.cells_of.Goals as goal

pub loop-group-preserved : goal.loop-group-preserved
loop-group-preserved c = λ n a.
    map_more (is_at_place n a) (λ (g : Group). g.cells) (get place_cmp c.loop-group.cells (n, a)) (get place_cmp c.keep_group.new.cells (n, a))
    c.as_slice-group-items.result.now c.loop-group.group-index c.group-item.result c.group-item.result c.loop-group-test.true (sym c.group-item.is)
    (c.loop-group.invariant n a) (c.in_ok-keep_group.ensures n a)
