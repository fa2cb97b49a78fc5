use Rattle.std.proofs.lemmas.Result.{IfOk-weaker}
use Rattle.std.proofs.Common.{sym, subst}
use Rattle.st_ids.specs.Listing.{IsRising}
use Rattle.st_ids.specs.Order.{field_cmp, node_cmp}
use Rattle.st_marks.specs.declared.marks.RegStep.{RegStep}
use Rattle.st_marks.specs.declared.marks.RowMarks.{RowMarks}
use Rattle.st_marks.specs.declared.steps.Step.{Step}
use Rattle.st_marks.specs.Listings.{listing_after_change, listing_after_step}
use Rattle.st_turn_places.specs.Rules.{ArePlaces}
use Rattle.st_part_rings.proofs.ToldAfter.{left_places}
use Rattle.st_part_rings.proofs.ToldListings.{registers_rise}
use Rattle.st_part_rings.proofs.left.places_left.Goals as goal

pub places_after-requires-clause-rows : goal.places_after-requires-clause-rows
places_after-requires-clause-rows c = subst (λ (s : Step). IsRising node_cmp (λ (r : RowMarks). r.node) s.rows) (sym c.in_ok-step.ensures) c.requires.rows

pub places_after-requires-clause-regs : goal.places_after-requires-clause-regs
places_after-requires-clause-regs c = subst (λ (s : Step). IsRising field_cmp (λ (r : RegStep). r.field) s.regs) (sym c.in_ok-step.ensures) (registers_rise c.args.change.now c.requires.regs)

pub returns : goal.returns
returns c = IfOk-weaker c.places_after.result (λ l. ArePlaces l (listing_after_step c.in_ok-step.step)) (λ l. ArePlaces l (listing_after_change c.args.change.now))
    (λ l h. left_places c.args.change.now l (subst (λ s. ArePlaces l (listing_after_step s)) c.in_ok-step.ensures h)) c.places_after.ensures
