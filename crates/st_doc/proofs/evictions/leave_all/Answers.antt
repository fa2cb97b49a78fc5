use Rattle.std.proofs.Common.{sym, ap, ◌∙◌, cond, None, unwrap_or, take_all, arith}
use Rattle.std.specs.BTreeMap.{get}
use Rattle.st_ids.specs.Order.{field_cmp, node_cmp}
use Rattle.st_marks.specs.declared.places.Spot.{Spot}
use Rattle.st_doc.specs.inside.Evictions.{stands_in}
use Rattle.st_doc.proofs.Evicting.{left_one, unless_among, among_all}
use Rattle.st_doc.proofs.evictions.leave_all.Goals as goal

pub loop-put-preserved : goal.loop-put-preserved
loop-put-preserved c = λ f.
    let put = c.put-item.result in
    let spot = unwrap_or (get node_cmp c.args.place.now put.node) Spot.Nowhere in
    c.leave.ensures f ∙ ap (cond (stands_in f spot) None) (c.loop-put.invariant f)
    ∙ left_one c.as_slice-put-items.result.now c.loop-put.put-index put f (get field_cmp c.args.held.now f) spot c.loop-put-test.true (sym c.put-item.is) (c.requires put.node f)

pub returns : goal.returns
returns c = λ f. c.loop-put.invariant f ∙ ap (λ ps. unless_among ps (get field_cmp c.args.held.now f)) (take_all _ _ (omega arith) ∙ c.as_slice-put-items.ensures) ∙ among_all c.args.intent.now (get field_cmp c.args.held.now f)
