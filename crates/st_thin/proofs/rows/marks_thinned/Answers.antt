use Rattle.std.proofs.Common.{◌≡◌, [], List, Result, Ok, Err, length, map, ap, ◌∙◌, arith}
use Rattle.std.specs.Prelude.{IfOk}
use Rattle.st_marks.specs.declared.marks.Mark.{Mark}
use Rattle.st_marks.specs.Row.{counted_cells, spread}
use Rattle.st_mention_laws.specs.Shown.{thin_marks, unnamed}
use Rattle.st_rows.specs.Merged.{IsMerged}
use Rattle.st_rows.specs.Walks.{in_turn}
use Rattle.st_rows.proofs.MergedMarks.{length-counted, merged_is}
use Rattle.st_thin.specs.inside.Thinning.{thinned}
use Rattle.st_thin.proofs.RowsThinned.{laid}
use Rattle.st_thin.proofs.rows.marks_thinned.Goals as goal

pub lay_in_turn_alike-requires : goal.lay_in_turn_alike-requires
lay_in_turn_alike-requires c = let n = length-counted c.args.count [] in let l = c.ranges.count.fits in omega (arith, n, l)

pub returns : goal.returns
returns c = λ e. both e c.lay_in_turn_alike.result c.lay_in_turn_alike.ensures.merged c.lay_in_turn_alike.ensures.cells
  where
    first : spread c.as_slice.result.now ≡ spread c.args.marks.now
    first = ap spread c.as_slice.ensures

    both : length (spread c.args.marks.now) ≡ c.args.count → {E : Type 0} (r : Result (List Mark) E) → IfOk r IsMerged → IfOk r (λ ms. spread ms ≡ map thinned (in_turn (spread c.as_slice.result.now) (counted_cells c.args.count []))) → IfOk r (λ ms. ms ≡ thin_marks c.args.marks.now)
    both e (Err x) h q = tt
    both e (Ok ms) h q = merged_is ms (map unnamed (spread c.args.marks.now)) h (q ∙ ap (λ l. map thinned (in_turn l (counted_cells c.args.count []))) first ∙ laid c.args.count (spread c.args.marks.now) e)
