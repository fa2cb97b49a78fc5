use Rattle.std.proofs.Common.{◌≡◌, ◌||◌, take}
use Rattle.std.specs.BTreeSet.{contains}
use Rattle.std.specs.List.{flat_map}
use Rattle.st_ids.specs.Order.{node_cmp}
use Rattle.st_ids.specs.declared.names.NodeId.{NodeId}
use Rattle.st_marks.specs.declared.marks.Loose.{Loose}
use Rattle.st_marks.specs.Embedding.{is_among}
use Rattle.st_marks.specs.Listings.{one_or_none}
use Rattle.st_trim.specs.inside.Told.{loose_leaver}
use Rattle.st_trim.proofs.differing.add_loose.Given as goal

abbrev pub invariant-loop-one : goal.invariant-loop-one
invariant-loop-one l = (n : NodeId) → contains node_cmp l.set n
    ≡ (contains node_cmp l.initial.set n || is_among (flat_map (λ (m : Loose). one_or_none (loose_leaver (contains node_cmp l.new) m)) (take l.one-index l.loose)) n)
