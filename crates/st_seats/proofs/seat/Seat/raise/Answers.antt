use Rattle.std.proofs.Common.{◌≡◌, ◌≤◌, length, drop, take, refl, sym, ap, ◌∙◌, subst, arith}
use Rattle.std.proofs.lemmas.List.{length-take-le, take-append-drop}
use Rattle.st_window.specs.Window.{kept_above}
use Rattle.st_seats.specs.inside.Rising.{AreNext}
use Rattle.st_seats.specs.declared.seat.Seat.{Seat}
use Rattle.st_seats.proofs.Seated.{are_next, author_reaches, from_seat, seated}
use Rattle.st_seats.proofs.seat.Seat.raise.Goals as goal

pub returns-in_ok-leave_behind-in-Ok : goal.returns-in_ok-leave_behind-in-Ok
returns-in_ok-leave_behind-in-Ok g c = λ O log known w window low up within s.
    let l = g.R.Carrier.listed in
    let session = c.args.session in
    let inside : known ≤ length log = omega (arith, up, within) in
    let front : length (take known log) ≡ known = length-take-le known log inside in
    let after : Seat = record { reference = c.args.reference; sent = c.pass_commits.new.sent; bridge = c.leave_behind.new.bridge } in
    let kept : c.in-Ok.kept.now ≡ kept_above known c.args.window.now.kept = c.in-Ok.ensures.ok ∙ ap (λ n. kept_above n c.args.window.now.kept) s.at in
    let next : AreNext l O log (length (take known log)) c.args.reference c.in-Ok.kept.now =
    subst (λ n. AreNext l O log n c.args.reference c.in-Ok.kept.now) (sym front) (subst (λ ks. AreNext l O log known c.args.reference ks) (sym kept) (are_next l O log c.args.window.now known c.args.reference window low)) in
    let a = c.in_ok-gone-in-Ok.ensures O s.author log (take known log) (drop known log) known w (sym (take-append-drop known log)) (omega (arith, front)) (omega (arith, front, up)) within next (from_seat l O log session known c.args.self.now inside s) in
    seated l O log session known c.args.reference w c.args.self.now after s a.0 a.1 a.2 a.3 up c.in_ok-gone-in-Ok.gone a.4 refl
    (c.in_ok-leave_behind-in-Ok.ensures s.author a.4.author s.trunk a.4.extends (author_reaches l O log session known c.args.reference w c.args.self.now after s a.0 a.1 a.2 a.3 up c.in_ok-gone-in-Ok.gone a.4) a.4.step s.bridge)
