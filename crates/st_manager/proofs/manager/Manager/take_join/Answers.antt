use Rattle.std.proofs.Common.{refl}
use Rattle.st_lists.specs.declared.lists.Body.TheVariants.{Join}
use Rattle.st_valid.specs.declared.message.Said.TheVariants as said
use Rattle.st_manager.proofs.EntriesTold.{may_say, next_number, noted, room_to_join}
use Rattle.st_manager.proofs.KnownCommits.{all_written}
use Rattle.st_manager.proofs.manager.Manager.take_join.Goals as goal

pub returns-clause-taken : goal.returns-clause-taken
returns-clause-taken g c = λ t u stands known coming.
    let l = g.R.Carrier.listed in
    let s = c.args.session in
    let uuid = c.args.uuid in
    let M = c.args.self.now in
    c.count_entry.ensures.counted t u s (Join uuid) (noted l t u s (Join uuid) M _ (said.Join uuid) refl stands known (λ m. refl) coming
    (c.in_ok-note_join.ensures t.log stands.ledger (may_say t s (said.Join uuid) known) (room_to_join t s uuid known))
    (c.in_ok-seats_join.ensures l t.opening stands.head.document t.log uuid (all_written t s stands.told) stands.head.to_document
    (next_number l t M c.saturating_add.result stands c.saturating_add.ensures) stands.seats)
    refl refl refl refl refl refl)
