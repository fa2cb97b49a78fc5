use Rattle.std.proofs.Common.{◌≡◌, List}
use Rattle.st_lemmas.proofs.Options.{IfOk-along}
use Rattle.st_marks.specs.declared.marks.Mark.{Mark}
use Rattle.st_marks.specs.Row.{merge, spread}
use Rattle.st_rows.specs.Cells.{compose_row}
use Rattle.st_strip.specs.inside.Told.{made_in, marks_of_both}
use Rattle.st_strip.proofs.MadeCells.{both_told, settled_short}
use Rattle.st_strip.proofs.rows.marks_of_both.Goals as goal

pub compose_alike-requires : goal.compose_alike-requires
compose_alike-requires c = settled_short (made_in c.args.first.now) c.in_ok-then.then c.args.whole.now c.in_ok-then.ensures c.requires.whole

pub returns : goal.returns
returns c =
    IfOk-along c.compose_alike.result (λ (l : List Mark). l ≡ merge (compose_row (spread c.in_ok-back.back) (spread c.in_ok-then.then))) (λ (l : List Mark). l ≡ marks_of_both c.args.first.now c.args.whole.now)
    (λ l e. both_told c.args.first.now c.args.whole.now c.in_ok-back.back c.in_ok-then.then l c.in_ok-back.ensures.marks c.in_ok-then.ensures e) c.compose_alike.ensures
