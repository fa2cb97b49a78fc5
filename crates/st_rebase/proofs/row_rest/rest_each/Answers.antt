use Rattle.std.specs.BTreeSet.{contains}
use Rattle.st_ids.specs.Order.{node_cmp}
use Rattle.st_marks.specs.declared.marks.Mark.{Mark}
use Rattle.st_rebase.specs.inside.Marks.{rest_of}
use Rattle.st_rebase.proofs.RestMarks.{each_more}
use Rattle.st_rebase.proofs.row_rest.rest_each.Goals as goal

pub loop-mark-preserved : goal.loop-mark-preserved
loop-mark-preserved c = each_more (rest_of (contains node_cmp c.args.named.now)) c.args.marks.now c.loop-mark.mark-index (Mark.Skip 0) c.loop-mark.rest c.push.new.self c.rest_mark.result
    c.loop-mark-test.true c.loop-mark.invariant c.rest_mark.ensures c.in_ok-push.ensures.ok
