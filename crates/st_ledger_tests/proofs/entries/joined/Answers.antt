use Rattle.std.proofs.Common.{[], refl}
use Rattle.st_clusters.specs.Free.{is_v4}
use Rattle.st_ledger_tests.proofs.entries.joined.Goals as goal

pub returns-in-Ok : goal.returns-in-Ok
unfolding is_v4
returns-in-Ok c = c.in-Ok.ensures.ok [] c.new-ledger.ensures refl
