use Rattle.std.proofs.Common.{◌<◌, ◌-◌, sym, ap, ◌∙◌, cond, ◌&&◌, Some, length, arith}
use Rattle.std.specs.BTreeMap.{get}
use Rattle.st_ids.specs.Order.{field_cmp}
use Rattle.st_marks.specs.Intent.{is_new, is_register}
use Rattle.st_marks.specs.CarryOut.{only_new}
use Rattle.st_doc.proofs.Evicting.{filled_new_one}
use Rattle.st_doc.proofs.evictions.fill_all_new.Goals as goal

pub loop-left-preserved : goal.loop-left-preserved
loop-left-preserved c =
    let N = c.args.intent.now in
    let left = c.loop-left.left in
    let puts = c.as_slice-puts.result.now in
    let put = c.index-puts-left.result in
    let more : 0 < left = c.loop-left-test.true in
    let inside : left - 1 < length puts = omega (arith, c.loop-left.invariant.within) in
    record {
      within = omega (arith, c.loop-left.invariant.within);
      filled = λ f. c.in_ok-fill_new.ensures f ∙ ap (cond (is_register f put.to && is_new N f.node) (only_new N (Some put.node))) (c.loop-left.invariant.filled f)
          ∙ filled_new_one puts (left - 1) left put (omega arith) inside (sym c.index-puts-left.is) N f (get field_cmp c.args.held.now f);
    }
