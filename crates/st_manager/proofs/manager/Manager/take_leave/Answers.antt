use Rattle.std.proofs.Common.{refl}
use Rattle.st_lists.specs.declared.lists.Body.TheVariants.{Leave}
use Rattle.st_valid.specs.declared.message.Said.TheVariants as said
use Rattle.st_manager.proofs.EntriesTold.{may_say, noted, room_to_say}
use Rattle.st_manager.proofs.KnownCommits.{all_written}
use Rattle.st_manager.proofs.manager.Manager.take_leave.Goals as goal

pub returns-clause-taken : goal.returns-clause-taken
returns-clause-taken g c = λ t u stands known coming.
    let l = g.R.Carrier.listed in
    let s = c.args.session in
    c.count_entry.ensures.counted t u s Leave (noted l t u s Leave c.args.self.now _ said.Leave refl stands known (λ m. refl) coming
    (c.in_ok-note_leave.ensures t.log stands.ledger (may_say t s said.Leave known) (room_to_say t s said.Leave known))
    (c.seats_leave.ensures l t.opening t.log (all_written t s stands.told) stands.seats)
    refl refl refl refl refl refl)
