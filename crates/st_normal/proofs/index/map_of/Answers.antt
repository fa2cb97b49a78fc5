use Rattle.std.specs.BTreeMap.{get}
use Rattle.st_ids.specs.Order.{atom_cmp}
use Rattle.st_normal.proofs.Naming.{finds-next, is_once-told}
use Rattle.st_normal.proofs.index.map_of.Goals as goal

pub loop-item-preserved : goal.loop-item-preserved
loop-item-preserved g c =
    let left = g.W.Walk.left in
    let name = g.I.Named.name in
    let old = get atom_cmp c.loop-item.map in
    let new = get atom_cmp c.add.new.map in
    record {
      found = finds-next name old new c.in-Some.item (left c.loop-item.walk) (left c.step.new.self) (left c.args.walk) c.loop-item.invariant.found c.in-Some.ensures c.in_ok-once.ensures.added;
      once = is_once-told name old new c.loop-item.once c.in_ok-once.field-0 c.in-Some.item (left c.loop-item.walk) (left c.step.new.self) (left c.args.walk) c.loop-item.invariant.once c.in-Some.ensures c.in_ok-once.ensures.added c.in_ok-once.ensures.fresh;
    }
