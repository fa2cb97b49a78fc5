use Rattle.std.proofs.Common.{◌≡◌, List, Result, Ok, Err, ap, ◌∙◌, subst}
use Rattle.std.specs.Prelude.{IfOk}
use Rattle.st_marks.specs.declared.marks.Mark.{Mark}
use Rattle.st_rows.specs.Merged.{IsMerged}
use Rattle.st_marks.specs.Row.{embed_row, merge, spread}
use Rattle.st_marks.specs.Listings.{cells_before, cells_after}
use Rattle.st_rows.specs.Views.{DifferAt}
use Rattle.st_rows.specs.Differences.{IsApart, first_difference}
use Rattle.st_rows.specs.Cells.{join_row}
use Rattle.st_rows.specs.Changes.{carried_row}
use Rattle.st_rows.proofs.NoErrors.{none_apart}
use Rattle.st_rows.proofs.ViewsOfRows.{no_difference, change_finds, change_leaves}
use Rattle.st_rows.proofs.RowJoins.{join_row-embed_row}
use Rattle.st_rows.proofs.MergedMarks.{merged_is}
use Rattle.st_rows.proofs.KindLaws.{spread_of}
use Rattle.st_kind.specs.Refused.{IsApartWhere}
use Rattle.st_rows.proofs.Differences.{apart_where}
use Rattle.st_rows.proofs.row_compose.join.Goals as goal

pub returns-clause-joined : goal.returns-clause-joined
returns-clause-joined c = λ p q j a both f t.
    let first = ap spread c.as_slice.ensures ∙ spread_of c.args.first.now (embed_row p a) f.says in
    let then = ap spread c.as_slice-2.ensures ∙ spread_of c.args.then.now (embed_row q (carried_row p a)) t.says in
    none_apart _ c.lay_in_turn.result c.lay_in_turn.ensures.merged c.lay_in_turn.ensures.cells c.lay_in_turn.ensures.apart
    ((λ i. first_difference (cells_after (first i)) (cells_before (then i))) ∙ no_difference (carried_row p a) (cells_after (embed_row p a)) (cells_before (embed_row q (carried_row p a))) (change_leaves p a f.mentions) (change_finds q (carried_row p a)))
    (λ marks h e. merged_is marks (embed_row j a) h (e ∙ (λ i. join_row (first i) (then i)) ∙ join_row-embed_row p q j a both f.mentions t.mentions))

pub returns-clause-marks : goal.returns-clause-marks
returns-clause-marks c = both c.lay_in_turn.result c.lay_in_turn.ensures.merged c.lay_in_turn.ensures.cells
  where
    first : spread c.as_slice.result.now ≡ spread c.args.first.now
    first = ap spread c.as_slice.ensures

    then_ : spread c.as_slice-2.result.now ≡ spread c.args.then.now
    then_ = ap spread c.as_slice-2.ensures

    both : {E : Type 0} (r : Result (List Mark) E) → IfOk r IsMerged → IfOk r (λ ms. spread ms ≡ join_row (spread c.as_slice.result.now) (spread c.as_slice-2.result.now)) → IfOk r (λ ms. ms ≡ merge (join_row (spread c.args.first.now) (spread c.args.then.now)))
    both (Err e) h q = tt
    both (Ok ms) h q = merged_is ms (join_row (spread c.args.first.now) (spread c.args.then.now)) h (q ∙ (λ i. join_row (first i) (then_ i)))

pub returns-clause-met : goal.returns-clause-met
returns-clause-met c =
    subst (λ x. IsApart (first_difference (cells_after (spread x)) (cells_before (spread c.args.then.now))) c.lay_in_turn.result) c.as_slice.ensures
    (subst (λ y. IsApart (first_difference (cells_after (spread c.as_slice.result.now)) (cells_before (spread y))) c.lay_in_turn.result) c.as_slice-2.ensures c.lay_in_turn.ensures.apart)

pub returns-clause-apart : goal.returns-clause-apart
returns-clause-apart c = subst (λ x. IsApartWhere c.lay_in_turn.result (DifferAt (cells_after (spread x)) (cells_before (spread c.args.then.now)))) c.as_slice.ensures
    (subst (λ y. IsApartWhere c.lay_in_turn.result (DifferAt (cells_after (spread c.as_slice.result.now)) (cells_before (spread y)))) c.as_slice-2.ensures
    (apart_where (cells_after (spread c.as_slice.result.now)) (cells_before (spread c.as_slice-2.result.now)) c.lay_in_turn.result c.lay_in_turn.ensures.apart))
