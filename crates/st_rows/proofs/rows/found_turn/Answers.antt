use Rattle.std.proofs.Common.{◌≡◌, ap, sym, ◌∙◌, true}
use Rattle.st_marks.specs.Listings.{CellView, cell_view}
use Rattle.st_rows.specs.Differences.{agree, view_before}
use Rattle.st_rows.specs.Reading.{cell_of}
use Rattle.st_rows.specs.Heads.{marks_left}
use Rattle.st_rows.proofs.Pairs.{slot_met}
use Rattle.st_rows.proofs.rows.found_turn.Goals as goal

pub returns-then-is_same : goal.returns-then-is_same
returns-then-is_same c = λ xs h.
    let x = (rw c.in-Some.is at c.one.ensures) xs c.args.marks.now h in
    let row = rw c.in-Some-first_slot-2.is at c.first_slot-in-Some.ensures in
    let s = c.in-Some-first_slot-2.slot in
    let same : agree (cell_view s.cell s.node s.full) (view_before (cell_of c.in-Some.mark.now)) ≡ true = (λ i. agree (sym c.slot_said.ensures i) (sym c.before-in-Some-first_slot-2.ensures i)) ∙ sym c.is_same.ensures ∙ c.if-is_same.true in
    let z = slot_met s (cell_of c.in-Some.mark.now) c.after.result.full c.args.slots.now c.in-Some-first_slot-2.others.now xs (marks_left c.in-Some.count c.args.marks.now) row x.1 (x.2 c.requires) same (ap (λ (y : CellView). y.full) c.after.ensures) in
    (z.0, z.1, z.2, z.3)
