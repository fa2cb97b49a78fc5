use Rattle.std.proofs.Common.{sym}
use Rattle.std.specs.BTreeSet.{contains}
use Rattle.st_ids.specs.Order.{node_cmp}
use Rattle.st_lemmas.proofs.Bools.{or-false}
use Rattle.st_climb.proofs.GrownSets.{added_more}
use Rattle.st_trim.specs.inside.Told.{changes_by_row}
use Rattle.st_trim.proofs.differing.add_rows.Goals as goal

pub loop-row-init : goal.loop-row-init
loop-row-init c = λ n. sym (or-false (contains node_cmp c.args.set.now n))

pub loop-row-preserved : goal.loop-row-preserved
loop-row-preserved c = λ n.
    added_more (changes_by_row (contains node_cmp c.args.new.now)) (contains node_cmp c.args.set.now n) (contains node_cmp c.loop-row.set n) (contains node_cmp c.add_row.new.set n) n
    c.args.rows.now c.loop-row.row-index c.row-item.result c.row-item.result c.loop-row-test.true (sym c.row-item.is)
    (c.loop-row.invariant n) (c.in_ok-add_row.ensures n)
