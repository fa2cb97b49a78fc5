use Rattle.std.proofs.Common.{◌≡◌, ◌∙◌, ap, drop, subst, sym}
use Rattle.std.proofs.lemmas.List.{drop-drop}
use Rattle.st_window.specs.Window.{RiseFrom, WindowView, kept_above}
use Rattle.st_window.proofs.Numbers.{above_rise}
use Rattle.st_window.proofs.window.Window.advance.Goals as goal

pub invariant_of-self : goal.invariant_of-self
invariant_of-self c =
    let all = c.self.inside.kept in
    let start = c.self.inside.start in
    let passed = c.count_up_to.result in
    let floor = c.args.floor in
    let live : c.live.result.now ≡ drop start all = c.live.ensures.kept ∙ sym (ap (λ (w : WindowView). w.kept) c.self.view_is) in
    let rest : drop c.drop_front-self-inside.result c.drop_front-self-inside.new.all ≡ kept_above floor (drop start all) =
    c.drop_front-self-inside.ensures.rest ∙ sym (drop-drop passed start all) ∙ ap (drop passed) (sym live) ∙ c.count_up_to.ensures.rest ∙ ap (kept_above floor) live in
    (c.drop_front-self-inside.ensures.half, subst (RiseFrom floor) (sym rest) (above_rise c.self.inside.floor floor (drop start all) c.self.invariant.1))
