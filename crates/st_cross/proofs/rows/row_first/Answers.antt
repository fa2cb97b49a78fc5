use Rattle.std.proofs.Common.{◌≡◌, ◌<◌, ◌^◌, Option, List, sym, ap, ◌∙◌, subst}
use Rattle.std.specs.BTreeMap.{get}
use Rattle.std.specs.BTreeSet.{contains}
use Rattle.st_ids.specs.Order.{node_cmp}
use Rattle.st_lemmas.proofs.Options.{IfOk-along}
use Rattle.st_marks.specs.declared.marks.Mark.{Mark}
use Rattle.st_marks.specs.declared.marks.RowMarks.{RowMarks}
use Rattle.st_marks.specs.Row.{spread}
use Rattle.st_moves.specs.inside.Rows.{bare}
use Rattle.st_moves.proofs.BareRows.{room_first}
use Rattle.st_over.specs.Across.{across_both}
use Rattle.st_cross.specs.Fields.{placed_in}
use Rattle.st_cross.proofs.rows.row_first.Goals as goal

pub row_both-requires : goal.row_both-requires
row_both-requires g c =
    subst (λ k. k < 2 ^ 32) (sym (room_first (spread c.args.change.now) (spread c.in_ok-step.step) (c.in_ok-step.ensures ∙ ap (λ (l : List Mark). bare (spread l)) c.as_slice.ensures))) c.requires

pub returns : goal.returns
returns g c =
    let row = across_both g.R.Reading.listed c.args.across.now.was c.args.across.now.is (placed_in (contains node_cmp c.args.across.now.made.now) c.args.node) (get node_cmp c.args.across.now.puts.now) c.args.node in
    let xs = spread c.args.change.now in
    IfOk-along c.row_both.result (λ (o : Option RowMarks). o ≡ row xs (spread c.in_ok-step.step)) (λ (o : Option RowMarks). o ≡ row xs (bare xs))
    (λ o h. h ∙ ap (row xs) (c.in_ok-step.ensures ∙ ap (λ (q : List Mark). bare (spread q)) c.as_slice.ensures)) c.row_both.ensures
