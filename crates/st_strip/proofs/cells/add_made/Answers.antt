use Rattle.std.proofs.Common.{◌||◌, ap, ◌∙◌, sym}
use Rattle.std.specs.BTreeSet.{contains}
use Rattle.st_ids.specs.Order.{cell_cmp}
use Rattle.st_marks.specs.declared.marks.Mark.{Mark}
use Rattle.st_strip.specs.inside.Told.{makes}
use Rattle.st_strip.proofs.MadeCells.{put_more}
use Rattle.st_strip.proofs.cells.add_made.Goals as goal

pub returns-in_ok-add-in-Make : goal.returns-in_ok-add-in-Make
returns-in_ok-add-in-Make c = λ a.
    c.in_ok-add-in-Make.ensures a ∙ put_more (contains cell_cmp c.args.set.now a) a c.in-Make.cell
    ∙ ap (λ (m : Mark). contains cell_cmp c.args.set.now a || makes a m) (sym c.in-Make.is)
