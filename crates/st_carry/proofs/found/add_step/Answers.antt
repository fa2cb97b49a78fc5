use Rattle.std.proofs.Common.{◌||◌, false, map, ap, ◌∙◌}
use Rattle.std.specs.BTreeSet.{contains}
use Rattle.st_ids.specs.Order.{node_cmp}
use Rattle.st_climb.proofs.GrownSets.{added_then}
use Rattle.st_marks.specs.declared.marks.RegStep.{RegStep}
use Rattle.st_marks.specs.Embedding.{is_among}
use Rattle.st_marks.specs.Listings.{nodes_loose, placed_before}
use Rattle.st_carry.specs.inside.Standing.{placed_at}
use Rattle.st_carry.proofs.found.add_step.Goals as goal

pub returns : goal.returns
returns c = λ n.
    let S = c.args.step.now in
    added_then (contains node_cmp c.args.set.now n) (contains node_cmp c.add_loose.new.set n) (contains node_cmp c.add_placed.new.set n) (nodes_loose S.loose) (placed_before S.rows (map (λ (r : RegStep). r.before) S.regs)) n
    (c.in_ok-add_loose.ensures n ∙ ap (λ l. contains node_cmp c.args.set.now n || is_among (nodes_loose l) n) c.as_slice.ensures)
    (c.in_ok-add_placed.ensures n ∙ (λ i. contains node_cmp c.add_loose.new.set n || is_among (placed_at false (c.as_slice-2.ensures i) (c.as_slice-3.ensures i)) n))
