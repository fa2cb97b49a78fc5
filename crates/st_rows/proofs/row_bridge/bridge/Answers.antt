use Rattle.std.proofs.Common.{ap, sym, ◌∙◌, subst}
use Rattle.std.specs.BTreeMap.{get}
use Rattle.st_ids.specs.Order.{node_cmp}
use Rattle.st_kind.specs.Refused.{IsApartWhere}
use Rattle.st_marks.specs.Embedding.{is_among}
use Rattle.st_marks.specs.Row.{spread, step_row, embed_row}
use Rattle.st_marks.specs.Listings.{cells_before}
use Rattle.st_rows.specs.Views.{DifferAt}
use Rattle.st_rows.specs.Differences.{first_difference}
use Rattle.st_rows.specs.Cells.{bridge_row, touch_of}
use Rattle.st_rows.specs.Changes.{placed_by}
use Rattle.st_rows.proofs.NoErrors.{none_apart}
use Rattle.st_rows.proofs.RowBridges.{bridge_row-embed_row, placed_new}
use Rattle.st_rows.proofs.ViewsOfRows.{no_difference, step_finds, change_finds}
use Rattle.st_rows.proofs.Differences.{apart_where}
use Rattle.st_rows.proofs.MergedMarks.{merged_is}
use Rattle.st_rows.proofs.KindLaws.{spread_of}
use Rattle.st_rows.proofs.RowRebases.{Tells, marks_tell}
use Rattle.st_rows.proofs.row_bridge.bridge.Goals as goal

pub returns-clause-bridged : goal.returns-clause-bridged
returns-clause-bridged c = λ p m a d h s w v k.
    let found = rw c.in-Ok.is at c.touches.ensures in
    let listed = ap spread c.as_slice.ensures ∙ spread_of c.args.change.now (embed_row p a) h.says in
    let change = ap spread c.as_slice-2.ensures ∙ spread_of c.args.change.now (embed_row p a) h.says in
    let step = ap spread c.as_slice-3.ensures ∙ spread_of c.args.step.now (step_row m s.grows) s.says in
    let look = get node_cmp c.in-Ok.seen in
    let new = is_among c.args.new.now in
    let placed = placed_by c.args.in_new c.args.new.now in
    let law = bridge_row-embed_row look p m placed new c.args.was_void c.args.is_void (placed_new c.args.in_new c.args.new.now) v.mentions s.grows v.groups v.old_before v.old_after w (λ e. (k e).older)
    (λ e n x. subst (Tells p n) (sym (found n ∙ ap (λ l. touch_of l n) listed)) (marks_tell p a d (k e).stays n x)) in
    none_apart _ c.lay_beside.result c.lay_beside.ensures.merged c.lay_beside.ensures.cells c.lay_beside.ensures.apart
    ((λ i. first_difference (cells_before (change i)) (cells_before (step i))) ∙ no_difference a (cells_before (embed_row p a)) (cells_before (step_row m s.grows)) (change_finds p a) (step_finds m s.grows))
    (λ marks q e. (record { grows = law.0; says = merged_is marks _ q (e ∙ (λ i. bridge_row c.args.was_void c.args.is_void placed look (change i) (step i)) ∙ law.1) }, law.2))

pub returns-clause-apart : goal.returns-clause-apart
returns-clause-apart c = subst (λ x. IsApartWhere c.lay_beside.result (DifferAt (cells_before (spread x)) (cells_before (spread c.args.step.now)))) c.as_slice-2.ensures
    (subst (λ y. IsApartWhere c.lay_beside.result (DifferAt (cells_before (spread c.as_slice-2.result.now)) (cells_before (spread y)))) c.as_slice-3.ensures
    (apart_where (cells_before (spread c.as_slice-2.result.now)) (cells_before (spread c.as_slice-3.result.now)) c.lay_beside.result c.lay_beside.ensures.apart))
