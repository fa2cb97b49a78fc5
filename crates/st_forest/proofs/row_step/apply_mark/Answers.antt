use Rattle.std.proofs.Common.{◌∷◌, drop, subst}
use Rattle.st_marks.specs.declared.marks.Mark.{Mark as AnyMark}
use Rattle.st_marks.specs.Row.{spread}
use Rattle.st_forest.specs.RowSteps.{Leads}
use Rattle.st_forest.proofs.RowsLed.{by_fill, by_gap, by_make, by_touch, cells_pass}
use Rattle.st_forest.proofs.row_step.apply_mark.Goals as goal

pub returns-in-Skip-clause-leads : goal.returns-in-Skip-clause-leads
returns-in-Skip-clause-leads c = λ ms d h short.
    cells_pass c.args.row.now c.args.place c.requires c.in-Skip.count d c.past.result ms
    (subst (λ (k : AnyMark). Leads (drop c.args.place c.args.row.now) (spread (k ∷ ms)) d) c.in-Skip.is h) c.past.ensures

pub returns-in-Gap-clause-leads : goal.returns-in-Gap-clause-leads
returns-in-Gap-clause-leads c = λ ms d h short.
    by_gap c.args.row.now c.args.place c.requires c.in-Gap.field-0 d c.past-in-Gap.result ms
    (subst (λ (k : AnyMark). Leads (drop c.args.place c.args.row.now) (spread (k ∷ ms)) d) c.in-Gap.is h) c.past-in-Gap.ensures

pub returns-in-Touch-clause-leads : goal.returns-in-Touch-clause-leads
returns-in-Touch-clause-leads c = λ ms d h short.
    by_touch c.args.row.now c.args.place c.requires c.in-Touch.cell c.in-Touch.node c.in-Touch.how d c.touch.new.row c.touch.result ms
    (subst (λ (k : AnyMark). Leads (drop c.args.place c.args.row.now) (spread (k ∷ ms)) d) c.in-Touch.is h) c.touch.ensures.leaves c.touch.ensures.stays

pub returns-in_ok-behind-in-Make-clause-leads : goal.returns-in_ok-behind-in-Make-clause-leads
returns-in_ok-behind-in-Make-clause-leads c = λ ms d h short.
    by_make c.args.row.now c.args.place c.requires c.in-Make.cell c.in-Make.node c.in-Make.full d c.make.new.row c.in_ok-behind-in-Make.behind ms
    (subst (λ (k : AnyMark). Leads (drop c.args.place c.args.row.now) (spread (k ∷ ms)) d) c.in-Make.is h) short c.in_ok-behind-in-Make.ensures.made

pub returns-in-Fill-clause-leads : goal.returns-in-Fill-clause-leads
returns-in-Fill-clause-leads c = λ ms d h short.
    by_fill c.args.row.now c.args.place c.requires c.in-Fill.cell c.in-Fill.node d c.turn.new.row c.turn.result ms
    (subst (λ (k : AnyMark). Leads (drop c.args.place c.args.row.now) (spread (k ∷ ms)) d) c.in-Fill.is h) c.turn.ensures.there
