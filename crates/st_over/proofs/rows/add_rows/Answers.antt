use Rattle.std.proofs.Common.{sym, ◌∙◌}
use Rattle.std.specs.BTreeSet.{contains}
use Rattle.std.specs.Ordering.{is_eq}
use Rattle.st_ids.specs.Order.{node_cmp}
use Rattle.st_lemmas.proofs.Bools.{or-false}
use Rattle.st_lemmas.proofs.FirstItems.{found_more}
use Rattle.st_marks.specs.declared.marks.RowMarks.{RowMarks}
use Rattle.st_moves.proofs.NamesLeft.{or_last}
use Rattle.st_over.proofs.rows.add_rows.Goals as goal

pub loop-item-init : goal.loop-item-init
loop-item-init c = λ q. sym (or-false (contains node_cmp c.args.set.now q))

pub loop-item-preserved : goal.loop-item-preserved
loop-item-preserved c = λ q.
    found_more (λ (r : RowMarks). is_eq (node_cmp r.node q)) (contains node_cmp c.args.set.now q) (contains node_cmp c.loop-item.set q) (contains node_cmp c.add.new.set q)
    c.args.items.now c.loop-item.item-index c.item-item.result c.item-item.result c.loop-item-test.true (sym c.item-item.is)
    (c.loop-item.invariant q) (c.in_ok-add.ensures q ∙ or_last (contains node_cmp c.loop-item.set q) (is_eq (node_cmp c.item-item.result.node q)))
