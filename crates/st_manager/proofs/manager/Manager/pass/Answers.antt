use Rattle.std.proofs.Common.{refl}
use Rattle.st_lemmas.proofs.Bools.{true-false}
use Rattle.st_manager.proofs.CommitsTaken.{under_way}
use Rattle.st_manager.proofs.manager.Manager.pass.Goals as goal

pub returns-clause-passed : goal.returns-clause-passed
returns-clause-passed g c = λ t u N stands known coming room.
    under_way g.R.Carrier.listed t u c.args.session c.args.reference c.args.ids c.args.change.now c.seats_take.new.change N _ _ (record { effected = c.in_ok-effected.effected; local = c.in_ok-local.local })
    c.names_in_change-names.result c.is_own-own.result stands known coming room
    c.names_in_change-names.ensures c.in_ok-note_commit.ensures c.in_ok-effected.ensures c.is_own-own.ensures.0 (λ e q. true-false (c.is_own-own.ensures.1 q) e)
    c.in_ok-local.ensures.tables c.in_ok-local.ensures.own c.in_ok-local.ensures.other
    refl refl refl refl
