use Rattle.std.proofs.Common.{◌≡◌, ◌∙◌, List, ap, drop, subst, sym}
use Rattle.std.specs.List.Sorted.{IsNonDecreasingBy}
use Rattle.st_window.specs.declared.kept.Kept.{Kept}
use Rattle.st_window.proofs.Numbers.{in_turn}
use Rattle.st_window.proofs.window.Window.live.Goals as goal

pub returns-clause-in_turn : goal.returns-clause-in_turn
returns-clause-in_turn c =
    let all = c.self.inside.kept in
    let start = c.self.inside.start in
    let live : c.split_at.result.1.now ≡ drop start all = c.split_at.ensures.back ∙ ap (drop start) c.as_slice.ensures in
    subst (λ (ks : List Kept). IsNonDecreasingBy (λ (k : Kept). k.n) ks) (sym live) (in_turn c.self.inside.floor (drop start all) c.self.invariant.1)
