use Rattle.std.proofs.Common.{[], ap, cond, Some, subst, sym, unwrap_or, ◌∙◌}
use Rattle.std.specs.BTreeMap.{get}
use Rattle.st_ids.specs.Order.{node_cmp, same_node}
use Rattle.st_ids.proofs.Orders.{same_node-itself}
use Rattle.st_marks.specs.Row.{spread}
use Rattle.st_forest.specs.RowSteps.{Leads}
use Rattle.st_forest.proofs.apply.change_row.Goals as goal

pub returns-clause-there : goal.returns-clause-there
unfolding same_node
returns-clause-there c = λ d short h.
    let node = c.args.row.now.node in
    let leads = subst (λ ms. Leads c.take_row-slots.result (spread ms) d) (sym c.as_slice.ensures) (subst (λ r. Leads r (spread c.args.row.now.marks) d) (sym c.take_row-slots.ensures.row) h) in
    ap (λ o. unwrap_or o []) (c.in_ok-set.ensures node ∙ ap (λ b. cond b (Some c.apply_row.new.row) (get node_cmp c.take_row-slots.new.rows node)) (same_node-itself node))
    ∙ c.in_ok-apply_row.ensures d short leads

pub returns-clause-rest : goal.returns-clause-rest
unfolding same_node
returns-clause-rest c = λ n q.
    c.in_ok-set.ensures n ∙ ap (λ b. cond b (Some c.apply_row.new.row) (get node_cmp c.take_row-slots.new.rows n)) q ∙ c.take_row-slots.ensures.rest n q
