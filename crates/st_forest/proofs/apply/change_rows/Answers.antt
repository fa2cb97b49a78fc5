use Rattle.std.proofs.Common.{[], ap, subst, sym, unwrap_or}
use Rattle.std.proofs.lemmas.List.{take_all}
use Rattle.st_forest.specs.inside.Writes.{AreLed}
use Rattle.std.specs.BTreeMap.{get}
use Rattle.st_ids.specs.Order.{node_cmp}
use Rattle.st_forest.proofs.LedRows.{led_more, led_none}
use Rattle.st_forest.proofs.apply.change_rows.Goals as goal

pub loop-row-init : goal.loop-row-init
loop-row-init c = λ R h. led_none (λ n. unwrap_or (get node_cmp c.args.rows.now n) []) R

pub loop-row-preserved : goal.loop-row-preserved
loop-row-preserved c = λ R h.
    led_more (λ n. unwrap_or (get node_cmp c.args.rows.now n) []) R (λ n. unwrap_or (get node_cmp c.loop-row.rows n) []) (λ n. unwrap_or (get node_cmp c.change_row.new.rows n) [])
    c.args.listed.now c.loop-row.row-index c.row-item.result c.row-item.result c.loop-row-test.true (sym c.row-item.is) h (c.loop-row.invariant R h)
    (c.in_ok-change_row.ensures.there (R c.row-item.result.node)) (λ n q. ap (λ o. unwrap_or o []) (c.in_ok-change_row.ensures.rest n q))

pub returns : goal.returns
returns c = λ R h.
    subst (λ rs. AreLed (λ n. unwrap_or (get node_cmp c.args.rows.now n) []) R rs (λ n. unwrap_or (get node_cmp c.loop-row.rows n) [])) (take_all c.loop-row.row-index c.args.listed.now c.loop-row-test.false) (c.loop-row.invariant R h)
