use Rattle.std.proofs.Common.{refl}
use Rattle.st_manager.proofs.EntriesTold.{counted_on}
use Rattle.st_manager.proofs.manager.Manager.count_entry.Goals as goal

pub returns-clause-counted : goal.returns-clause-counted
returns-clause-counted g c = λ t u session body way.
    counted_on g.R.Carrier.listed t u session body c.args.self.now _ way c.saturating_add-self.result c.minimum-self.result c.saturating_sub.result c.raise_floor.new.window
    c.saturating_add-self.ensures c.minimum-self.ensures c.saturating_sub.ensures c.raise_floor.ensures refl refl
