use Rattle.std.proofs.lemmas.Result.{on_ok_weaker}
use Rattle.st_undo.proofs.GoingOver.{short_after}
use Rattle.st_undo.specs.inside.Carrying.{Stands}
use Rattle.st_undo.proofs.carrying.go_over_all.Goals as goal

pub returns : goal.returns
returns g c = on_ok_weaker c.go_over_pending.result
    (λ pends D T F Ns B none sound later fits leads fit shown read.
    let l = g.R.Carrier.listed in
    let verdict = c.in_ok-verdict.ensures D B sound fits (short_after D B none.cells sound.short) read in
    let first : Stands l D B c.args.change.now c.in_ok-verdict.verdict = record { fits = fits; verdict = verdict; change = read } in
    (pends T F Ns B none later fit shown (c.in_ok-go_over_kept.ensures D T B none leads first)).change)
    c.go_over_pending.ensures
