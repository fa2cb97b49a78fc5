use Rattle.std.proofs.Common.{◌||◌, ◌++◌, false, map, ap, ◌∙◌}
use Rattle.std.specs.BTreeSet.{contains}
use Rattle.st_ids.specs.Order.{node_cmp}
use Rattle.st_climb.proofs.GrownSets.{added_then}
use Rattle.st_marks.specs.declared.marks.RegStep.{RegStep}
use Rattle.st_marks.specs.Embedding.{is_among}
use Rattle.st_marks.specs.Listings.{nodes_loose, nodes_new, placed_before}
use Rattle.st_listings.proofs.found.nodes_listed.Goals as goal

pub returns : goal.returns
returns c = λ n.
    let S = c.args.step.now in
    added_then false (contains node_cmp c.add_loose.new.set n) (contains node_cmp c.add_found.new.set n) (nodes_new S.new ++ nodes_loose S.loose) (placed_before S.rows (map (λ (r : RegStep). r.before) S.regs)) n
    (added_then false (contains node_cmp c.in_ok-set.set n) (contains node_cmp c.add_loose.new.set n) (nodes_new S.new) (nodes_loose S.loose) n
    (c.in_ok-set.ensures n ∙ ap (λ l. is_among (nodes_new l) n) c.as_slice.ensures)
    (c.in_ok-add_loose.ensures n ∙ ap (λ l. contains node_cmp c.in_ok-set.set n || is_among (nodes_loose l) n) c.as_slice-2.ensures))
    (c.in_ok-add_found.ensures n)
