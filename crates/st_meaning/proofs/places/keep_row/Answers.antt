use Rattle.std.proofs.Common.{◌≤◌, ◌+◌, ◌++◌, ◌∙◌, refl, sym, ap, subst, drop, get_or, length, arith}
use Rattle.std.proofs.Math.ListN.{drop_of_length-le}
use Rattle.st_marks.specs.declared.marks.Mark.{Mark}
use Rattle.st_marks.specs.Row.{spread}
use Rattle.st_meaning.specs.inside.Made.{at_place, cells_at, made_from}
use Rattle.st_meaning.proofs.Loops.{after-within, mark_more, marks_done}
use Rattle.st_meaning.proofs.places.keep_row.Goals as goal

pub loop-mark-init : goal.loop-mark-init
loop-mark-init c = record { within = omega arith; so_far = λ n a. refl }

pub loop-mark-preserved : goal.loop-mark-preserved
loop-mark-preserved c =
    let old = c.args.old.now in
    let at = c.loop-mark.at in
    let k = c.loop-mark.mark-index in
    let marks = c.args.marks.now in
    let mark = get_or marks k (Mark.Skip 0) in
    record {
      within = subst (λ j. j ≤ length old) (sym c.after_mark-at.ensures) (after-within old at mark c.loop-mark.invariant.within);
      so_far = λ n a.
          ap (λ j. cells_at c.keep_one.new.cells n a ++ at_place c.args.row n a (made_from old j (spread (drop (k + 1) marks)))) c.after_mark-at.ensures
          ∙ mark_more c.args.row n a old marks at k (Mark.Skip 0) mark (cells_at c.loop-mark.cells n a) (cells_at c.keep_one.new.cells n a) _ c.loop-mark.invariant.within c.loop-mark-test.true refl (c.in_ok-keep_one.ensures n a ∙ ap (λ l. cells_at c.loop-mark.cells n a ++ at_place c.args.row n a l) c.made_by.ensures) (c.loop-mark.invariant.so_far n a);
    }

pub returns : goal.returns
returns c = λ n a.
    let marks = c.args.marks.now in
    let k = c.loop-mark.mark-index in
    let all : length marks ≤ k = omega (arith, c.loop-mark-test.false) in
    marks_done c.args.row n a c.args.old.now (drop k marks) c.loop-mark.at (cells_at c.loop-mark.cells n a) _ (drop_of_length-le marks all) (c.loop-mark.invariant.so_far n a)
