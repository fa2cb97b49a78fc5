use Rattle.std.proofs.Common.{◌≡◌, ◌||◌, take}
use Rattle.std.specs.BTreeSet.{contains}
use Rattle.std.specs.List.{flat_map}
use Rattle.st_ids.specs.Order.{node_cmp}
use Rattle.st_ids.specs.declared.names.NodeId.{NodeId}
use Rattle.st_marks.specs.declared.marks.Mark.{Mark}
use Rattle.st_marks.specs.declared.marks.RowMarks.{RowMarks}
use Rattle.st_marks.specs.Embedding.{is_among}
use Rattle.st_marks.specs.Listings.{one_or_none}
use Rattle.st_carry.specs.inside.Standing.{stands_by}
use Rattle.st_carry.proofs.found.add_rows.Given as goal

abbrev pub invariant-loop-row : goal.invariant-loop-row
invariant-loop-row l = (n : NodeId) → contains node_cmp l.set n
    ≡ (contains node_cmp l.initial.set n || is_among (flat_map (λ (r : RowMarks). flat_map (λ (m : Mark). one_or_none (stands_by l.after m)) r.marks) (take l.row-index l.rows)) n)
