use Rattle.std.proofs.Common.{◌<◌, ◌≤◌, [], length, ap, sym, ◌∙◌, unwrap_or, get_or, subst}
use Rattle.std.specs.BTreeMap.{get}
use Rattle.st_ids.specs.Order.{node_cmp}
use Rattle.st_doc.proofs.Growing.{none_grown, all_grown, more_grown}
use Rattle.st_doc.proofs.rows.grow_rows.Goals as goal

pub loop-group-init : goal.loop-group-init
loop-group-init c = λ n. none_grown c.args.intent.now n (unwrap_or (get node_cmp c.args.rows.now n) [])

pub loop-group-preserved : goal.loop-group-preserved
loop-group-preserved c = λ n.
    let N = c.args.intent.now in
    let i = c.loop-group.group-index in
    let g = c.group-item.result in
    let all = c.as_slice-group-items.ensures in
    more_grown N c.requires.itself i g g (subst (λ gs. i < length gs) all c.loop-group-test.true) (ap (λ gs. get_or gs i g) (sym all) ∙ sym c.group-item.is) n
    (unwrap_or (get node_cmp c.args.rows.now n) []) (unwrap_or (get node_cmp c.loop-group.rows n) []) (unwrap_or (get node_cmp c.put_group.new.rows n) [])
    (c.requires.once n) (c.loop-group.invariant n) (c.in_ok-put_group.ensures n)

pub returns : goal.returns
returns c = λ n.
    c.loop-group.invariant n ∙ all_grown c.args.intent.now c.loop-group.group-index n (unwrap_or (get node_cmp c.args.rows.now n) [])
    (subst (λ gs. length gs ≤ c.loop-group.group-index) c.as_slice-group-items.ensures c.loop-group-test.false)
