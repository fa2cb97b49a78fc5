use Rattle.st_ids.specs.Root.{opening}
use Rattle.st_undo.proofs.WaysBack.{back_under, fits_behind, made_under, makes_nothing, opening_there, says_under}
use Rattle.st_undo.proofs.carrying.way_back.Goals as goal

pub returns : goal.returns
returns g c = λ D E T F Ns B x sound back step leads fit shown has.
    let l = g.R.Carrier.listed in
    let under = c.args.under in
    let fresh = c.args.fresh in
    let back_here = back_under D E fresh under opening B back in
    let first = c.in_ok-change.ensures D E (made_under opening B) x back_here (opening_there E x.after) step in
    let last = c.in_ok-go_over_all.ensures E T F Ns (made_under opening B) (makes_nothing D E fresh opening (made_under opening B) back_here) x.after sound (fits_behind D E fresh opening (made_under opening B) x back_here) leads fit shown first in
    says_under l F opening under B c.go_over_all.new.change back.nothing_new.3 back.rev_and_under.1 has last
