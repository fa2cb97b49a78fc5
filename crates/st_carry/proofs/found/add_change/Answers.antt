use Rattle.std.proofs.Common.{◌||◌, map, ap, ◌∙◌}
use Rattle.std.specs.BTreeSet.{contains}
use Rattle.st_ids.specs.Order.{node_cmp}
use Rattle.st_climb.proofs.GrownSets.{added_then}
use Rattle.st_marks.specs.declared.marks.RegMark.{RegMark}
use Rattle.st_marks.specs.Embedding.{is_among}
use Rattle.st_marks.specs.Listings.{nodes_loose, placed_before}
use Rattle.st_carry.proofs.found.add_change.Goals as goal

pub returns : goal.returns
returns c = λ n.
    let C = c.args.change.now in
    added_then (contains node_cmp c.args.set.now n) (contains node_cmp c.add_loose.new.set n) (contains node_cmp c.add_places.new.set n) (nodes_loose C.loose) (placed_before C.rows (map (λ (r : RegMark). r.held) C.regs)) n
    (c.in_ok-add_loose.ensures n ∙ ap (λ l. contains node_cmp c.args.set.now n || is_among (nodes_loose l) n) c.as_slice.ensures)
    (c.in_ok-add_places.ensures n)
