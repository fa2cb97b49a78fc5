use Rattle.std.proofs.Common.{◌≡◌, ◌||◌, take}
use Rattle.std.specs.BTreeSet.{contains}
use Rattle.std.specs.List.{list_any}
use Rattle.std.specs.Ordering.{is_eq}
use Rattle.st_cross.proofs.names.add_names.Given as goal

abbrev pub invariant-loop-item : goal.invariant-loop-item
invariant-loop-item g l = (q : _) → contains g.K.Ord.cmp l.set q ≡ (contains g.K.Ord.cmp l.initial.set q || list_any (λ r. is_eq (g.K.Ord.cmp (g.T.Named.key r) q)) (take l.item-index l.items))
