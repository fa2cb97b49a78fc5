use Rattle.std.proofs.Common.{arith, get_or, refl, sym, ◌∙◌}
use Rattle.st_marks.specs.declared.marks.Mark.{Mark}
use Rattle.st_clash.specs.inside.Made.{is_of}
use Rattle.st_clash.proofs.Names.{any-here, none-at-all, none-yet}
use Rattle.st_clash.proofs.revisions.marks_name.Goals as goal

pub returns-then-names_one : goal.returns-then-names_one
returns-then-names_one c = sym (any-here (is_of c.args.rev) c.args.marks.now c.loop-mark.mark-index (Mark.Skip 0) (get_or c.args.marks.now c.loop-mark.mark-index (Mark.Skip 0)) c.loop-mark-test.true refl (sym c.names_one.ensures ∙ c.if-names_one.true))

pub loop-mark-preserved : goal.loop-mark-preserved
loop-mark-preserved c = none-yet (is_of c.args.rev) c.args.marks.now c.loop-mark.mark-index (Mark.Skip 0) (get_or c.args.marks.now c.loop-mark.mark-index (Mark.Skip 0)) c.loop-mark-test.true refl (sym c.names_one.ensures ∙ c.if-names_one.false) c.loop-mark.invariant

pub returns : goal.returns
returns c = sym (none-at-all (is_of c.args.rev) c.args.marks.now c.loop-mark.mark-index (omega arith) c.loop-mark.invariant)
