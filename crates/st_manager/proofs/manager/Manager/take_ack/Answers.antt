use Rattle.std.proofs.Common.{refl, subst, sym, ◌≤◌}
use Rattle.st_lists.specs.Log.{known_reference}
use Rattle.st_lists.specs.declared.lists.Body.TheVariants.{Ack}
use Rattle.st_valid.specs.declared.message.Said.TheVariants as said
use Rattle.st_manager.proofs.EntriesTold.{ack_between, may_say, noted, room_to_say}
use Rattle.st_manager.proofs.KnownCommits.{all_written, floor_low}
use Rattle.st_manager.proofs.manager.Manager.take_ack.Goals as goal

pub returns-clause-taken : goal.returns-clause-taken
returns-clause-taken g c = λ t u stands known coming.
    let l = g.R.Carrier.listed in
    let s = c.args.session in
    let k = c.args.reference in
    let on = may_say t s (said.Ack k) known in
    let between = ack_between t s k known in
    c.count_entry.ensures.counted t u s (Ack k) (noted l t u s (Ack k) c.args.self.now _ (said.Ack k) refl stands known (λ m. refl) coming
    (c.in_ok-note_ack.ensures t.log stands.ledger on (room_to_say t s (said.Ack k) known))
    (c.in_ok-seats_ack.ensures t.opening t.log (all_written t s stands.told) stands.window
    (subst (λ x. x ≤ known_reference s t.log) (sym stands.floor) (floor_low t.history t.log s on)) on between.0 between.1 stands.seats)
    refl refl refl refl refl refl)
