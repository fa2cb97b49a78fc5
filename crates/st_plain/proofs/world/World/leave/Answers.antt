use Rattle.std.proofs.Common.{sym, ◌∙◌, arith}
use Rattle.std.proofs.lemmas.Option.{slice_get_within}
use Rattle.st_script.specs.Header.{header_view}
use Rattle.st_plain.proofs.Returning.{as_many_kept}
use Rattle.st_plain.proofs.Stepping.{left_connected, sound_left}
use Rattle.st_world_laws.proofs.Entering.{within_entries}
use Rattle.st_plain.proofs.world.World.leave.Goals as goal

pub remove_replica-requires : goal.remove_replica-requires
remove_replica-requires c =
    let w = c.args.self.now in
    omega (arith, slice_get_within w.lists.clients c.args.i c.in-Some-get.client.now (sym c.in-Some-get.ensures), as_many_kept (header_view w.header) w.lists.log w.lists.clients w.kept c.requires.sound.kept)

pub enter-requires-clause-connected : goal.enter-requires-clause-connected
enter-requires-clause-connected c = rw c.remove_client.ensures (left_connected c.args.self.now c.args.i c.in-Some-get.client.now c.requires.sound (sym c.in-Some-get.ensures))

pub returns-clause-sound : goal.returns-clause-sound
returns-clause-sound c =
    let w = c.args.self.now in
    let few = within_entries w.lists.log (sym c.entries_limit.ensures ∙ c.in_default.is) in
    rw (c.in_ok-n.ensures.world, c.remove_client.ensures, c.remove_replica.ensures)
    (sound_left w c.args.i c.in-Some-get.client.now c.enter.new.self.known c.requires.sound (sym c.in-Some-get.ensures) few c.in_ok-n.ensures.known)
