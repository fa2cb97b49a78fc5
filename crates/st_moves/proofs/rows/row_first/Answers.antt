use Rattle.std.proofs.Common.{◌≡◌, ◌<◌, ◌^◌, Option, List, sym, ap, ◌∙◌, subst}
use Rattle.std.specs.BTreeMap.{get}
use Rattle.std.specs.BTreeSet.{contains}
use Rattle.st_ids.specs.Order.{node_cmp}
use Rattle.st_lemmas.proofs.Options.{IfOk-along}
use Rattle.st_marks.specs.declared.marks.Mark.{Mark}
use Rattle.st_marks.specs.declared.marks.RowMarks.{RowMarks}
use Rattle.st_marks.specs.Row.{spread}
use Rattle.st_moves.specs.inside.Rows.{bare, row_both, row_first}
use Rattle.st_moves.proofs.BareRows.{first_is, room_first}
use Rattle.st_moves.proofs.rows.row_first.Goals as goal

pub row_both-requires : goal.row_both-requires
row_both-requires c =
    subst (λ k. k < 2 ^ 32) (sym (room_first (spread c.args.change.now) (spread c.in_ok-step.step) (c.in_ok-step.ensures ∙ ap (λ (l : List Mark). bare (spread l)) c.as_slice.ensures))) c.requires

pub returns : goal.returns
returns c =
    let P = get node_cmp c.args.puts.now in
    let m = contains node_cmp c.args.named.now in
    IfOk-along c.row_both.result (λ (o : Option RowMarks). o ≡ row_both P m c.args.node c.args.change.now c.in_ok-step.step) (λ (o : Option RowMarks). o ≡ row_first P m c.args.node (spread c.args.change.now))
    (λ o h. h ∙ first_is P m c.args.node c.args.change.now c.in_ok-step.step (c.in_ok-step.ensures ∙ ap (λ (l : List Mark). bare (spread l)) c.as_slice.ensures)) c.row_both.ensures
