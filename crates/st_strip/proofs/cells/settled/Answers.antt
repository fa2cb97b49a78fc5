use Rattle.std.proofs.Common.{◌≡◌, List, map, ap, ◌∙◌}
use Rattle.std.specs.BTreeSet.{contains}
use Rattle.std.specs.List.{list_any}
use Rattle.st_ids.specs.Order.{cell_cmp}
use Rattle.st_lemmas.proofs.Options.{IfOk-along}
use Rattle.st_marks.specs.declared.marks.Mark.{Mark}
use Rattle.st_marks.specs.Row.{spread}
use Rattle.st_strip.specs.Rest.{settled_row}
use Rattle.st_strip.specs.inside.Told.{made_in, makes, settle}
use Rattle.st_strip.proofs.MadeCells.{settled_told}
use Rattle.st_strip.proofs.cells.settled.Goals as goal

pub returns : goal.returns
returns c =
    let made = contains cell_cmp c.in_ok-made.made in
    IfOk-along c.settle_all.result (λ (l : List Mark). l ≡ map (settle made) c.as_slice-2.result.now) (λ (l : List Mark). spread l ≡ settled_row (made_in c.args.first.now) (spread c.args.whole.now))
    (λ l e. settled_told made c.args.first.now c.args.whole.now l (λ a. c.in_ok-made.ensures a ∙ ap (list_any (makes a)) c.as_slice.ensures) (e ∙ ap (map (settle made)) c.as_slice-2.ensures)) c.settle_all.ensures
