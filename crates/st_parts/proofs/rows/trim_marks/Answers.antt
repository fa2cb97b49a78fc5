use Rattle.std.proofs.Common.{◌≡◌, ◌<◌, ◌^◌, List, [], map, ap, sym, ◌∙◌, subst}
use Rattle.std.specs.BTreeSet.{contains}
use Rattle.st_ids.specs.Order.{node_cmp}
use Rattle.st_marks.specs.Row.{CellMark, counted_cells, merge, spread}
use Rattle.st_rows.specs.Changes.{may_list}
use Rattle.st_rows.specs.Merged.{IsMerged}
use Rattle.st_rows.specs.Walks.{beside}
use Rattle.st_rows.proofs.MergedMarks.{merged_is}
use Rattle.st_trim.specs.Trimmed.{trim_mark}
use Rattle.st_parts.specs.inside.Cut.{trimmed_piece}
use Rattle.st_parts.proofs.CutChanges.{beside_counted, both_ok, fits_counted}
use Rattle.st_parts.proofs.rows.trim_marks.Goals as goal

pub lay_alike-requires : goal.lay_alike-requires
lay_alike-requires c =
    let xs = spread c.args.marks.now in
    let marks : spread c.as_slice.result.now ≡ xs = ap spread c.as_slice.ensures in
    subst (λ (ys : List CellMark). may_list ys (counted_cells c.count_of.result []) < 2 ^ 32) (sym marks)
    (subst (λ j. may_list xs (counted_cells j []) < 2 ^ 32) (sym c.count_of.ensures) (fits_counted xs c.requires))

pub returns : goal.returns
returns c =
    let k = contains node_cmp c.args.named.now in
    let xs = spread c.args.marks.now in
    let marks : spread c.as_slice.result.now ≡ xs = ap spread c.as_slice.ensures in
    let says : map (trimmed_piece k) (beside (spread c.as_slice.result.now) (counted_cells c.count_of.result [])) ≡ map (trim_mark k) xs
    = (λ i. map (trimmed_piece k) (beside (marks i) (counted_cells (c.count_of.ensures i) []))) ∙ beside_counted k xs in
    both_ok c.lay_alike.result (λ ms. IsMerged ms) (λ ms. spread ms ≡ map (trimmed_piece k) (beside (spread c.as_slice.result.now) (counted_cells c.count_of.result []))) (λ ms. ms ≡ merge (map (trim_mark k) xs))
    (λ ms merged cells. merged_is ms (map (trim_mark k) xs) merged (cells ∙ says)) c.lay_alike.ensures.merged c.lay_alike.ensures.cells
