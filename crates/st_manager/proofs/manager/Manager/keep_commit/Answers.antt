use Rattle.std.proofs.Common.{refl}
use Rattle.st_manager.proofs.CommitsTaken.{kept_on}
use Rattle.st_manager.proofs.manager.Manager.keep_commit.Goals as goal

pub returns-clause-kept : goal.returns-clause-kept
returns-clause-kept g c = λ t u session reference N way.
    kept_on g.R.Carrier.listed t u session reference c.args.ids c.args.change c.args.change N c.args.self.now _ c.args.passed way c.saturating_add-self.result c.minimum-self.result c.saturating_sub.result _
    c.saturating_add-self.ensures c.minimum-self.ensures refl c.saturating_sub.ensures c.in_ok-keep.ensures refl
