use Rattle.std.proofs.Common.{◌<◌, ◌-◌, ◌∙◌, sym, length, arith}
use Rattle.std.specs.BTreeMap.{get}
use Rattle.std.specs.BTreeSet.{contains}
use Rattle.st_ids.specs.Order.{node_cmp, cell_cmp}
use Rattle.st_doc.specs.Doc.{document_of}
use Rattle.st_heads.proofs.Listed.{back_more}
use Rattle.st_heads.proofs.back.put_all_back.Goals as goal

pub loop-left-preserved : goal.loop-left-preserved
loop-left-preserved c =
    let left = c.loop-left.left in
    let puts = c.as_slice-puts.result.now in
    let more : 0 < left = c.loop-left-test.true in
    let inside : left - 1 < length puts = omega (arith, c.loop-left.invariant.within) in
    record {
      within = omega (arith, c.loop-left.invariant.within);
      told = λ n. c.in_ok-set_back.ensures n
          ∙ back_more (document_of c.args.doc.now) (contains cell_cmp c.args.names.now) n puts (left - 1) left c.index-puts-left.result (get node_cmp c.args.back.now n) (get node_cmp c.loop-left.back n) c.in_ok-to.to
          (omega arith) inside (sym c.index-puts-left.is) c.in_ok-to.ensures (c.loop-left.invariant.told n);
    }
