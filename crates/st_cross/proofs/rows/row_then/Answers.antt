use Rattle.std.proofs.Common.{◌≡◌, ◌<◌, ◌^◌, Option, List, sym, ap, ◌∙◌, subst}
use Rattle.std.specs.BTreeMap.{get}
use Rattle.std.specs.BTreeSet.{contains}
use Rattle.st_ids.specs.Order.{node_cmp}
use Rattle.st_lemmas.proofs.Options.{IfOk-along}
use Rattle.st_marks.specs.declared.marks.Mark.{Mark}
use Rattle.st_marks.specs.declared.marks.RowMarks.{RowMarks}
use Rattle.st_marks.specs.Row.{spread}
use Rattle.st_moves.specs.inside.Rows.{bare}
use Rattle.st_moves.proofs.BareRows.{room_then}
use Rattle.st_over.specs.Across.{across_both}
use Rattle.st_cross.specs.Fields.{placed_in}
use Rattle.st_cross.proofs.rows.row_then.Goals as goal

pub row_both-requires : goal.row_both-requires
row_both-requires g c =
    subst (λ k. k < 2 ^ 32) (sym (room_then (spread c.in_ok-change.change) (spread c.args.step.now) (c.in_ok-change.ensures ∙ ap (λ (l : List Mark). bare (spread l)) c.as_slice.ensures))) c.requires

pub returns : goal.returns
returns g c =
    let row = across_both g.R.Reading.listed c.args.across.now.was c.args.across.now.is (placed_in (contains node_cmp c.args.across.now.made.now) c.args.node) (get node_cmp c.args.across.now.puts.now) c.args.node in
    let ys = spread c.args.step.now in
    IfOk-along c.row_both.result (λ (o : Option RowMarks). o ≡ row (spread c.in_ok-change.change) ys) (λ (o : Option RowMarks). o ≡ row (bare ys) ys)
    (λ o h. h ∙ ap (λ xs. row xs ys) (c.in_ok-change.ensures ∙ ap (λ (q : List Mark). bare (spread q)) c.as_slice.ensures)) c.row_both.ensures
