use Rattle.std.proofs.Common.{sym, ◌∙◌}
use Rattle.st_plain.proofs.Stepping.{dropped_connected, sound_dropped}
use Rattle.st_world_laws.proofs.Entering.{within_entries}
use Rattle.st_plain.proofs.world.World.drop_client.Goals as goal

pub enter-requires-clause-connected : goal.enter-requires-clause-connected
enter-requires-clause-connected c = rw c.disconnect.ensures (dropped_connected c.args.self.now c.args.i c.in-Some-get_mut.client.now c.requires.sound (sym c.in-Some-get_mut.ensures.value))

pub returns-clause-sound : goal.returns-clause-sound
returns-clause-sound c =
    let w = c.args.self.now in
    let few = within_entries w.lists.log (sym c.entries_limit.ensures ∙ c.in_default.is) in
    rw (c.in_ok-n.ensures.world, c.disconnect.ensures)
    (sound_dropped w c.args.i c.in-Some-get_mut.client.now c.enter.new.self.known c.requires.sound (sym c.in-Some-get_mut.ensures.value) few c.in_ok-n.ensures.known)
