use Rattle.std.proofs.Common.{◌<◌, ◌+◌, ◌-◌, nat_lt, subst, sym}
use Rattle.std.specs.List.{All}
use Rattle.std.proofs.lemmas.List.Elements.{All-filter}
use Rattle.st_window.specs.Window.{WindowView}
use Rattle.st_window.specs.declared.kept.Kept.{Kept}
use Rattle.st_chunks_tests.proofs.Numbers.{below_next}
use Rattle.st_chunks_tests.proofs.windows.follow.Goals as goal

pub returns-clause-last : goal.returns-clause-last
returns-clause-last c =
    let n = c.args.n in
    let pushed : All (λ (x : Kept). x.n < n + 1) c.push.new.self.kept =
    subst (λ (w : WindowView). All (λ (x : Kept). x.n < n + 1) w.kept) (sym c.in_ok-push.ensures.ok)
    (below_next n c.args.window.now.kept c.commit.result c.commit.ensures c.requires.last) in
    subst (λ (w : WindowView). All (λ (x : Kept). x.n < n + 1) w.kept) (sym c.advance.ensures)
    (All-filter (λ (k : Kept). nat_lt (n - 1) k.n) (λ (x : Kept). x.n < n + 1) c.push.new.self.kept pushed)
