use Rattle.std.proofs.Common.{sym}
use Rattle.std.specs.BTreeSet.{contains}
use Rattle.st_join.specs.inside.Lists.{takes_place}
use Rattle.st_join.specs.inside.Places.{place_cmp}
use Rattle.st_join.proofs.Steps.{set_more}
use Rattle.st_join.proofs.groups.taken_places.Goals as goal

pub loop-group-preserved : goal.loop-group-preserved
loop-group-preserved c = λ n a.
    set_more (takes_place n a) (contains place_cmp c.loop-group.taken (n, a)) (contains place_cmp c.take_group.new.taken (n, a))
    c.as_slice-group-items.result.now c.loop-group.group-index c.group-item.result c.group-item.result c.loop-group-test.true (sym c.group-item.is)
    (c.loop-group.invariant n a) (c.in_ok-take_group.ensures n a)
