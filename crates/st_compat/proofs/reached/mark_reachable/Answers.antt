use Rattle.std.proofs.Common.{◌∙◌, refl, false, List, ℕ, replicate, subst, arith, length-set}
use Rattle.st_compat.specs.inside.Marks.{IsMarkedToo}
use Rattle.st_compat.proofs.Marking.{marks_begin, marks_next, marks_all, unmarked}
use Rattle.st_compat.proofs.reached.mark_reachable.Goals as goal

pub marks-init : goal.marks-init
marks-init c =
    let s = c.args.schema.now in
    let marks = c.mark_list.new.marks in
    record {
      long = refl;
      are = marks_begin s (replicate 256 false) (replicate 256 false) marks (unmarked 256) (unmarked 256)
          (subst (λ (types : List (List ℕ)). IsMarkedToo s types (replicate 256 false) marks) c.root.ensures c.mark_list.ensures);
    }

pub marks-preserved : goal.marks-preserved
marks-preserved c =
    let is = c.in-Some.ensures in
    record {
      long = length-set c.marks.followed c.in-Some.i _ ∙ c.marks.invariant.long;
      are = marks_next c.args.schema.now c.marks.marks c.marks.followed c.follow.new.marks c.in-Some.i is.marked (omega (arith, is.within, c.marks.invariant.long)) c.follow.ensures c.marks.invariant.are;
    }

pub returns : goal.returns
returns c = marks_all c.args.schema.now c.marks.marks c.marks.followed c.in_default.ensures c.marks.invariant.are
