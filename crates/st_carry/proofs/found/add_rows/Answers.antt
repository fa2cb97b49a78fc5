use Rattle.std.proofs.Common.{◌||◌, sym, ap, ◌∙◌}
use Rattle.std.specs.BTreeSet.{contains}
use Rattle.std.specs.List.{flat_map}
use Rattle.st_ids.specs.Order.{node_cmp}
use Rattle.st_lemmas.proofs.Bools.{or-false}
use Rattle.st_marks.specs.declared.marks.Mark.{Mark}
use Rattle.st_marks.specs.declared.marks.RowMarks.{RowMarks}
use Rattle.st_marks.specs.Embedding.{is_among}
use Rattle.st_marks.specs.Listings.{one_or_none}
use Rattle.st_climb.proofs.GrownSets.{added_more}
use Rattle.st_carry.specs.inside.Standing.{stands_by}
use Rattle.st_carry.proofs.found.add_rows.Goals as goal

pub loop-row-init : goal.loop-row-init
loop-row-init c = λ n. sym (or-false (contains node_cmp c.args.set.now n))

pub loop-row-preserved : goal.loop-row-preserved
loop-row-preserved c = λ n.
    added_more (λ (r : RowMarks). flat_map (λ (m : Mark). one_or_none (stands_by c.args.after m)) r.marks) (contains node_cmp c.args.set.now n) (contains node_cmp c.loop-row.set n) (contains node_cmp c.add_row.new.set n) n
    c.args.rows.now c.loop-row.row-index c.row-item.result c.row-item.result c.loop-row-test.true (sym c.row-item.is)
    (c.loop-row.invariant n) (c.in_ok-add_row.ensures n ∙ ap (λ l. contains node_cmp c.loop-row.set n || is_among (flat_map (λ (m : Mark). one_or_none (stands_by c.args.after m)) l) n) c.as_slice.ensures)
