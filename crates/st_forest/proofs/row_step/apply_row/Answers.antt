use Rattle.std.proofs.Common.{◌+◌, ◌<◌, ◌≤◌, ◌∙◌, ◌^◌, arith, drop, get_or, length, refl, subst, sym}
use Rattle.std.proofs.Common.{List as Seq}
use Rattle.std.proofs.Math.ListN.{drop_of_length-le}
use Rattle.st_marks.specs.declared.marks.Mark.{Mark}
use Rattle.st_marks.specs.declared.places.Slot.{Slot as AnySlot}
use Rattle.st_marks.specs.Row.{spread}
use Rattle.st_forest.specs.RowSteps.{Leads}
use Rattle.st_forest.proofs.RowsLed.{drop_next, led_to_end}
use Rattle.st_forest.proofs.row_step.apply_row.Goals as goal

pub loop-mark-preserved : goal.loop-mark-preserved
loop-mark-preserved c = record {
  within = c.in_ok-place.ensures.within;
  leads = λ d short h. (
      let r = c.loop-mark.invariant.leads d short h in
      let row = c.loop-mark.row in
      let place = c.loop-mark.place in
      let marks = c.args.marks.now in
      let ms = drop (c.loop-mark.mark-index + 1) marks in
      let next = drop_next marks c.loop-mark.mark-index (Mark.Skip 0) (get_or marks c.loop-mark.mark-index (Mark.Skip 0)) c.loop-mark-test.true refl in
      let here = subst (λ (l : Seq Mark). Leads (drop place row) (spread l) r.0) next r.1 in
      let few = subst (λ (l : Seq AnySlot). length l < 2 ^ 32) r.2 short in
      let t = c.in_ok-place.ensures.leads ms r.0 here few in
      (t.0, t.1, r.2 ∙ t.2)
      );
}

pub returns : goal.returns
returns c = λ d short h.
    let r = c.loop-mark.invariant.leads d short h in
    let past : length c.args.marks.now ≤ c.loop-mark.mark-index = omega arith in
    led_to_end c.loop-mark.row r.0 c.loop-mark.place (drop c.loop-mark.mark-index c.args.marks.now) (drop_of_length-le c.args.marks.now past) r.1 ∙ sym r.2
