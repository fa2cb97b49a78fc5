use Rattle.std.proofs.Common.{◌≡◌, ◌≤◌, ◌<◌, ◌*◌, [], ◌∷◌, ◌++◌, length, drop, sym, subst, ap, ◌∙◌, arith, length-append}
use Rattle.std.specs.List.{All}
use Rattle.std.proofs.lemmas.List.{drop-append-le}
use Rattle.st_window.specs.Window.{RiseFrom}
use Rattle.st_window.specs.declared.kept.Kept.{Kept}
use Rattle.st_window.proofs.Numbers.{pushed_rise}
use Rattle.st_window.proofs.window.Window.push.Goals as goal

pub invariant_of-self-2 : goal.invariant_of-self-2
invariant_of-self-2 c =
    let old = c.self.inside.kept in
    let start = c.self.inside.start in
    let one = c.args.kept ∷ [] in
    let new : c.push.new.self ≡ old ++ one = c.in_ok-push.ensures.ok in
    let within : start ≤ length old = omega (arith, c.self.invariant.0) in
    let half : 2 * start ≤ length c.push.new.self = omega (arith, c.self.invariant.0, ap length new, length-append old one) in
    let rest : drop start c.push.new.self ≡ drop start old ++ one = ap (drop start) new ∙ drop-append-le start old one within in
    let floor : c.self.inside.floor < c.args.kept.n = rw (← c.self.view_is) at c.requires.floor in
    let last : All (λ (k : Kept). k.n < c.args.kept.n) (drop start old) = rw (← c.self.view_is) at c.requires.last in
    (half, subst (RiseFrom c.self.inside.floor) (sym rest) (pushed_rise c.self.inside.floor (drop start old) c.args.kept c.self.invariant.1 floor last))
