use Rattle.std.proofs.Common.{◌||◌, get_or, refl, sym, ap, ◌∙◌}
use Rattle.std.specs.BTreeSet.{contains}
use Rattle.st_ids.specs.Order.{node_cmp}
use Rattle.st_lemmas.proofs.Bools.{or-false}
use Rattle.st_marks.specs.declared.marks.Mark.{Mark}
use Rattle.st_marks.specs.Embedding.{is_among}
use Rattle.st_marks.specs.Listings.{one_or_none}
use Rattle.st_climb.proofs.GrownSets.{added_more}
use Rattle.st_carry.specs.inside.Standing.{stands_by}
use Rattle.st_carry.proofs.found.add_row.Goals as goal

pub loop-mark-init : goal.loop-mark-init
loop-mark-init c = λ n. sym (or-false (contains node_cmp c.args.set.now n))

pub loop-mark-preserved : goal.loop-mark-preserved
loop-mark-preserved c = λ n.
    added_more (λ (m : Mark). one_or_none (stands_by c.args.after m)) (contains node_cmp c.args.set.now n) (contains node_cmp c.loop-mark.set n) (contains node_cmp c.add_one.new.set n) n
    c.args.marks.now c.loop-mark.mark-index (Mark.Skip 0) (get_or c.args.marks.now c.loop-mark.mark-index (Mark.Skip 0)) c.loop-mark-test.true refl
    (c.loop-mark.invariant n) (c.in_ok-add_one.ensures n ∙ ap (λ o. contains node_cmp c.loop-mark.set n || is_among (one_or_none o) n) c.standing.ensures)
