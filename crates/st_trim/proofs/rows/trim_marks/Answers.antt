use Rattle.std.proofs.Common.{get_or, refl, subst, sym}
use Rattle.std.proofs.lemmas.List.{take_all}
use Rattle.std.specs.BTreeSet.{contains}
use Rattle.st_ids.specs.Order.{node_cmp}
use Rattle.st_marks.specs.declared.marks.Mark.{Mark}
use Rattle.st_trim.proofs.WrittenMarks.{IsWritten, written_all, written_more, written_none}
use Rattle.st_trim.proofs.rows.trim_marks.Goals as goal

pub loop-mark-init : goal.loop-mark-init
loop-mark-init c = subst (λ out. IsWritten (contains node_cmp c.args.named.now) c.args.marks.now 0 out 0) (sym c.new-out.ensures) (written_none (contains node_cmp c.args.named.now) c.args.marks.now)

pub loop-mark-preserved : goal.loop-mark-preserved
loop-mark-preserved c =
    written_more (contains node_cmp c.args.named.now) c.args.marks.now c.loop-mark.mark-index (Mark.Skip 0) (get_or c.args.marks.now c.loop-mark.mark-index (Mark.Skip 0)) c.trim_mark.result
    c.loop-mark.out c.push.new.out c.loop-mark.count _ c.loop-mark-test.true refl c.trim_mark.ensures c.in_ok-count.ensures.fewer c.in_ok-count.ensures.cells c.loop-mark.invariant

pub returns : goal.returns
returns c = λ short.
    written_all (contains node_cmp c.args.named.now) c.args.marks.now c.loop-mark.mark-index c.loop-mark.out c.push_count.new.out c.loop-mark.count
    (take_all c.loop-mark.mark-index c.args.marks.now c.loop-mark-test.false) c.in_ok-push_count.ensures c.loop-mark.invariant short
