use Rattle.std.proofs.Common.{length}
use Rattle.std.specs.BTreeMap.{get}
use Rattle.st_ids.specs.Order.{atom_cmp}
use Rattle.st_normal.proofs.Naming.{FindsAll, IsOnce}
use Rattle.st_normal.proofs.index.map_of.Given as goal

abbrev pub invariant-loop-item : goal.invariant-loop-item
invariant-loop-item g l = record {
  found : FindsAll g.I.Named.name (get atom_cmp l.map) (g.W.Walk.left l.walk) (g.W.Walk.left l.initial.walk);
  once : IsOnce g.I.Named.name (get atom_cmp l.map) l.once (g.W.Walk.left l.walk) (g.W.Walk.left l.initial.walk);
}

abbrev pub decreases-loop-item : goal.decreases-loop-item
decreases-loop-item g l = length (g.W.Walk.left l.walk)
