use Rattle.std.proofs.Common.{true, false}
use Rattle.st_normal.proofs.Naming.{once-fails, once-next, told}
use Rattle.st_normal.proofs.index.once_in.Goals as goal

pub returns-then-is_some : goal.returns-then-is_some
returns-then-is_some g c =
    let left = g.W.Walk.left in
    let name = g.I.Named.name in
    once-fails name c.in-Some.item (left c.loop-item.walk) (left c.step.new.self) (left c.args.walk) c.loop-item.invariant c.in-Some.ensures
    (told name c.in-Some.item (left c.step.new.self) c.name.result c.find_in.result c.is_some.result true c.name.ensures c.find_in.ensures c.is_some.ensures c.if-is_some.true)

pub loop-item-preserved : goal.loop-item-preserved
loop-item-preserved g c =
    let left = g.W.Walk.left in
    let name = g.I.Named.name in
    once-next name c.in-Some.item (left c.loop-item.walk) (left c.step.new.self) (left c.args.walk) c.loop-item.invariant c.in-Some.ensures
    (told name c.in-Some.item (left c.step.new.self) c.name.result c.find_in.result c.is_some.result false c.name.ensures c.find_in.ensures c.is_some.ensures c.if-is_some.false)
