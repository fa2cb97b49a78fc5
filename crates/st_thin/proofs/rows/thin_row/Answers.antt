use Rattle.std.proofs.Common.{◌≡◌, cond, length, sym, ap, ◌∙◌, arith}
use Rattle.std.specs.Prelude.{Result, Ok, Err, IfOk}
use Rattle.st_marks.specs.declared.marks.RowMarks.{RowMarks}
use Rattle.st_marks.specs.Row.{spread}
use Rattle.st_mention_laws.specs.Shown.{thin_row}
use Rattle.st_thin.specs.inside.Thinning.{row_thinned}
use Rattle.st_thin.proofs.RowsThinned.{counted_all, few, too_many}
use Rattle.st_thin.proofs.rows.thin_row.Goals as goal

pub returns-then-count-ge-TOO_MANY : goal.returns-then-count-ge-TOO_MANY
returns-then-count-ge-TOO_MANY c = go c.copy.result c.copy.ensures
  where
    same : c.args.row.now ≡ row_thinned c.args.row.now
    same = ap (λ b. cond b (thin_row c.args.row.now) c.args.row.now) (sym (too_many c.after-count.result (spread c.args.row.now.marks) c.after-count.ensures (omega (arith, c.if-count-ge-TOO_MANY.true))))

    go : {E : Type 0} (r : Result RowMarks E) → IfOk r (λ q. q ≡ c.args.row.now) → IfOk r (λ q. q ≡ row_thinned c.args.row.now)
    go (Err x) e = tt
    go (Ok q) e = e ∙ same

pub returns : goal.returns
returns c =
    let l = counted_all c.after-count.result (spread c.args.row.now.marks) c.after-count.ensures (omega (arith, c.if-count-ge-TOO_MANY.false)) in
    ap (λ ms. record { node = c.args.row.now.node; marks = ms }) (c.in_ok-marks.ensures l)
    ∙ sym (few (length (spread c.args.row.now.marks)) (thin_row c.args.row.now) c.args.row.now (omega (arith, l, c.if-count-ge-TOO_MANY.false)))
