use Rattle.std.proofs.Common.{ap, sym, ◌∙◌, subst}
use Rattle.std.specs.BTreeMap.{get}
use Rattle.st_ids.specs.Order.{node_cmp}
use Rattle.st_marks.specs.Row.{spread, step_row, embed_row}
use Rattle.st_marks.specs.Listings.{cells_before}
use Rattle.st_rows.specs.Views.{DifferAt}
use Rattle.st_rows.specs.Differences.{first_difference}
use Rattle.st_rows.specs.Cells.{over_row, touch_of}
use Rattle.st_rows.proofs.NoErrors.{none_apart}
use Rattle.st_rows.proofs.ViewsOfRows.{no_difference, step_finds, change_finds}
use Rattle.st_rows.proofs.RowRebases.{Tells, marks_tell, over_row-embed_row}
use Rattle.st_rows.proofs.MergedMarks.{merged_is}
use Rattle.st_rows.proofs.KindLaws.{spread_of}
use Rattle.st_kind.specs.Refused.{IsApartWhere}
use Rattle.st_rows.proofs.Differences.{apart_where}
use Rattle.st_rows.proofs.row_rebase.rebase.Goals as goal

pub returns-clause-rebased : goal.returns-clause-rebased
returns-clause-rebased c = λ p m a d h s k.
    let found = rw c.in-Ok.is at c.touches.ensures in
    let listed = ap spread c.as_slice.ensures ∙ spread_of c.args.change.now (embed_row p a) h.says in
    let change = ap spread c.as_slice-2.ensures ∙ spread_of c.args.change.now (embed_row p a) h.says in
    let step = ap spread c.as_slice-3.ensures ∙ spread_of c.args.step.now (step_row m s.grows) s.says in
    let look = get node_cmp c.in-Ok.seen in
    let law = over_row-embed_row look p m s.grows k.older h.mentions (λ n w. subst (Tells p n) (sym (found n ∙ ap (λ l. touch_of l n) listed)) (marks_tell p a d k.stays n w)) in
    none_apart _ c.lay_beside.result c.lay_beside.ensures.merged c.lay_beside.ensures.cells c.lay_beside.ensures.apart
    ((λ i. first_difference (cells_before (change i)) (cells_before (step i))) ∙ no_difference a (cells_before (embed_row p a)) (cells_before (step_row m s.grows)) (change_finds p a) (step_finds m s.grows))
    (λ marks q e. merged_is marks (embed_row p d) q (e ∙ (λ i. over_row look (change i) (step i)) ∙ law))

pub returns-clause-apart : goal.returns-clause-apart
returns-clause-apart c = subst (λ x. IsApartWhere c.lay_beside.result (DifferAt (cells_before (spread x)) (cells_before (spread c.args.step.now)))) c.as_slice-2.ensures
    (subst (λ y. IsApartWhere c.lay_beside.result (DifferAt (cells_before (spread c.as_slice-2.result.now)) (cells_before (spread y)))) c.as_slice-3.ensures
    (apart_where (cells_before (spread c.as_slice-2.result.now)) (cells_before (spread c.as_slice-3.result.now)) c.lay_beside.result c.lay_beside.ensures.apart))
