use Rattle.std.proofs.Common.{arith, get_or, refl, sym, ◌∙◌}
use Rattle.std.specs.BTreeSet.{contains}
use Rattle.st_ids.specs.Order.{cell_cmp}
use Rattle.st_marks.specs.declared.marks.Mark.{Mark}
use Rattle.st_clash.proofs.Names.{any-here, none-at-all, none-yet}
use Rattle.st_turn_names.proofs.owners.name_any.Goals as goal

pub returns-then-is_in : goal.returns-then-is_in
returns-then-is_in c = sym (any-here (contains cell_cmp c.args.set.now) c.args.marks.now c.loop-mark.mark-index (Mark.Skip 0) (get_or c.args.marks.now c.loop-mark.mark-index (Mark.Skip 0)) c.loop-mark-test.true refl (sym c.is_in.ensures ∙ c.if-is_in.true))

pub loop-mark-preserved : goal.loop-mark-preserved
loop-mark-preserved c = none-yet (contains cell_cmp c.args.set.now) c.args.marks.now c.loop-mark.mark-index (Mark.Skip 0) (get_or c.args.marks.now c.loop-mark.mark-index (Mark.Skip 0)) c.loop-mark-test.true refl (sym c.is_in.ensures ∙ c.if-is_in.false) c.loop-mark.invariant

pub returns : goal.returns
returns c = sym (none-at-all (contains cell_cmp c.args.set.now) c.args.marks.now c.loop-mark.mark-index (omega arith) c.loop-mark.invariant)
