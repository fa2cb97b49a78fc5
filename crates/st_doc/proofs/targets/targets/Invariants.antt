use Rattle.std.proofs.Common.{◌≡◌, ◌≤◌, drop, length, option_map}
use Rattle.std.specs.BTreeMap.{get}
use Rattle.std.specs.Option.{option_or}
use Rattle.st_ids.specs.declared.names.NodeId.{NodeId as Node}
use Rattle.st_ids.specs.Order.{node_cmp, cell_cmp}
use Rattle.st_marks.specs.CarryOut.{spot_of}
use Rattle.st_doc.proofs.Placing.{put_by}
use Rattle.st_doc.proofs.targets.targets.Given as goal

abbrev pub invariant-loop-left : goal.invariant-loop-left
invariant-loop-left l = record {
  within : l.left ≤ length l.puts;
  placed : (n : Node) → get node_cmp l.targets n ≡ option_map (spot_of (λ c. option_or (get cell_cmp l.row_of c) (get cell_cmp l.made c))) (put_by (drop l.left l.puts) n);
}

abbrev pub decreases-loop-left : goal.decreases-loop-left
decreases-loop-left l = l.left
