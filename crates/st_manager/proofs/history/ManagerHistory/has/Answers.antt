use Rattle.std.proofs.Common.{◌||◌, ◌∙◌, sym, ap}
use Rattle.std.specs.List.{list_any}
use Rattle.st_manager.proofs.Pasts.{has_told, of_change}
use Rattle.st_manager.proofs.history.ManagerHistory.has.Goals as goal

pub returns-else-has_commit : goal.returns-else-has_commit
returns-else-has_commit g c = λ p x.
    let local = c.any_has.ensures ∙ ap (λ Cs. list_any (of_change c.args.rev) Cs) c.as_slice.ensures in
    ap (λ b. b || c.any_has.result) (sym c.if-has_commit.false) ∙ has_told g.R.Carrier.listed x.0 p c.args.self.now c.args.rev x.1 x.2 c.has_commit.result c.any_has.result c.has_commit.ensures local
