use Rattle.std.proofs.Common.{◌^◌, ap, ◌∙◌, rules}
use Rattle.st_marks.specs.Row.{spread}
use Rattle.st_rows.proofs.MergedMarks.{count_more, count_room}
use Rattle.st_rows.proofs.mark_builder.push_count.Goals as goal

pub overflow_add-j : goal.overflow_add-j
overflow_add-j c = let h = count_room c.take_count-j.new.out c.args.out.now c.take_count-j.result c.args.k (2 ^ 32) c.take_count-j.ensures.cells c.requires.room in search rules

pub returns-clause-cells : goal.returns-clause-cells
returns-clause-cells c = ap spread c.in_ok-push.ensures.ok ∙ count_more c.take_count-j.new.out c.args.out.now c.take_count-j.result c.args.k c.take_count-j.ensures.cells
