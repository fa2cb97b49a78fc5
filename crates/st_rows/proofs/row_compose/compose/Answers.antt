use Rattle.std.proofs.Common.{◌≡◌, List, Result, Ok, Err, ap, ◌∙◌, subst}
use Rattle.std.specs.Prelude.{IfOk}
use Rattle.st_marks.specs.declared.marks.Mark.{Mark}
use Rattle.st_rows.specs.Merged.{IsMerged}
use Rattle.st_kind.specs.Named.{either}
use Rattle.st_marks.specs.Row.{merge, spread, step_row}
use Rattle.st_marks.specs.Listings.{cells_before, cells_after}
use Rattle.st_rows.specs.Views.{DifferAt}
use Rattle.st_rows.specs.Differences.{IsApart, first_difference}
use Rattle.st_rows.specs.Cells.{compose_row}
use Rattle.st_rows.proofs.NoErrors.{none_apart}
use Rattle.st_rows.proofs.RowsInTurn.{compose_row-step_row, grows_on}
use Rattle.st_rows.proofs.ViewsOfRows.{no_difference, step_finds, step_leaves}
use Rattle.st_rows.proofs.MergedMarks.{merged_is}
use Rattle.st_rows.proofs.KindLaws.{spread_of}
use Rattle.st_kind.specs.Refused.{IsApartWhere}
use Rattle.st_rows.proofs.Differences.{apart_where}
use Rattle.st_rows.proofs.row_compose.compose.Goals as goal

pub returns-clause-composed : goal.returns-clause-composed
returns-clause-composed c = λ m k a d e f l t.
    let first = ap spread c.as_slice.ensures ∙ spread_of c.args.first.now (step_row m f.grows) f.says in
    let then = ap spread c.as_slice-2.ensures ∙ spread_of c.args.then.now (step_row k t.grows) t.says in
    none_apart _ c.lay_in_turn.result c.lay_in_turn.ensures.merged c.lay_in_turn.ensures.cells c.lay_in_turn.ensures.apart
    ((λ i. first_difference (cells_after (first i)) (cells_before (then i))) ∙ no_difference d (cells_after (step_row m f.grows)) (cells_before (step_row k t.grows)) (step_leaves m f.grows) (step_finds k t.grows))
    (λ s h q. record {
      grows = grows_on f.grows t.grows;
      says = merged_is s (step_row (either m k) (grows_on f.grows t.grows)) h (q ∙ (λ i. compose_row (first i) (then i)) ∙ compose_row-step_row m k t.grows f.grows l);
    })

pub returns-clause-marks : goal.returns-clause-marks
returns-clause-marks c = both c.lay_in_turn.result c.lay_in_turn.ensures.merged c.lay_in_turn.ensures.cells
  where
    first : spread c.as_slice.result.now ≡ spread c.args.first.now
    first = ap spread c.as_slice.ensures

    then_ : spread c.as_slice-2.result.now ≡ spread c.args.then.now
    then_ = ap spread c.as_slice-2.ensures

    both : {E : Type 0} (r : Result (List Mark) E) → IfOk r IsMerged → IfOk r (λ ms. spread ms ≡ compose_row (spread c.as_slice.result.now) (spread c.as_slice-2.result.now)) → IfOk r (λ ms. ms ≡ merge (compose_row (spread c.args.first.now) (spread c.args.then.now)))
    both (Err e) h q = tt
    both (Ok ms) h q = merged_is ms (compose_row (spread c.args.first.now) (spread c.args.then.now)) h (q ∙ (λ i. compose_row (first i) (then_ i)))

pub returns-clause-met : goal.returns-clause-met
returns-clause-met c =
    subst (λ x. IsApart (first_difference (cells_after (spread x)) (cells_before (spread c.args.then.now))) c.lay_in_turn.result) c.as_slice.ensures
    (subst (λ y. IsApart (first_difference (cells_after (spread c.as_slice.result.now)) (cells_before (spread y))) c.lay_in_turn.result) c.as_slice-2.ensures c.lay_in_turn.ensures.apart)

pub returns-clause-apart : goal.returns-clause-apart
returns-clause-apart c = subst (λ x. IsApartWhere c.lay_in_turn.result (DifferAt (cells_after (spread x)) (cells_before (spread c.args.then.now)))) c.as_slice.ensures
    (subst (λ y. IsApartWhere c.lay_in_turn.result (DifferAt (cells_after (spread c.as_slice.result.now)) (cells_before (spread y)))) c.as_slice-2.ensures
    (apart_where (cells_after (spread c.as_slice.result.now)) (cells_before (spread c.as_slice-2.result.now)) c.lay_in_turn.result c.lay_in_turn.ensures.apart))
