use Rattle.std.proofs.Common.{arith, refl, sym, ◌∙◌}
use Rattle.st_plain.proofs.Everyone.{kept_none}
use Rattle.st_world_laws.proofs.Everyone.{set_same}
use Rattle.st_plain.proofs.Returning.{carried_low, few_ids, few_kept, few_pending, pending_kept, flight, here_sound, received_within, reconnect_refused, rest_fits, waiting_fits}
use Rattle.st_world_laws.proofs.Entering.{may_reconnect}
use Rattle.st_plain.proofs.Stepping.{returned_connected, sound_later, sound_returned}
use Rattle.st_plain.proofs.world.World.reconnect.Goals as goal

pub returns-in_default-clause-next : goal.returns-in_default-clause-next
returns-in_default-clause-next c = λ q at. absurd (kept_none _ _ _ _ _ q c.requires.sound.kept at (sym c.in_default.ensures.value))

pub returns-in_default-clause-sound : goal.returns-in_default-clause-sound
returns-in_default-clause-sound c = sound_later c.args.self.now.steps c.args.self.now c.requires.sound

pub returns-in_default-get_mut-clause-sound : goal.returns-in_default-get_mut-clause-sound
returns-in_default-get_mut-clause-sound c = rw (set_same c.args.self.now.kept c.args.i c.in-Some.kept.now (sym c.in-Some.ensures.value)) (sound_later c.args.self.now.steps c.args.self.now c.requires.sound)

pub returns-in_default-get_mut-clause-refused : goal.returns-in_default-get_mut-clause-refused
returns-in_default-get_mut-clause-refused c = rw (set_same c.args.self.now.kept c.args.i c.in-Some.kept.now (sym c.in-Some.ensures.value)) refl

pub returns-in-Some-refusal_to_reconnect-clause-next : goal.returns-in-Some-refusal_to_reconnect-clause-next
returns-in-Some-refusal_to_reconnect-clause-next c = λ q at.
    let w = c.args.self.now in
    let client = c.in-Some-get_mut.client.now in
    rw (set_same w.lists.clients c.args.i client (sym c.in-Some-get_mut.ensures.value))
    (reconnect_refused w.lists c.args.i client q c.in-Some-refusal_to_reconnect.refusal (sym c.in-Some-get_mut.ensures.value) at (rw c.as_slice-log.ensures at (sym c.refusal_to_reconnect.ensures ∙ c.in-Some-refusal_to_reconnect.is)))

pub returns-in-Some-refusal_to_reconnect-clause-sound : goal.returns-in-Some-refusal_to_reconnect-clause-sound
returns-in-Some-refusal_to_reconnect-clause-sound c =
    rw (set_same c.args.self.now.lists.clients c.args.i c.in-Some-get_mut.client.now (sym c.in-Some-get_mut.ensures.value), set_same c.args.self.now.kept c.args.i c.in-Some.kept.now (sym c.in-Some.ensures.value))
    (sound_later c.args.self.now.steps c.args.self.now c.requires.sound)

pub returns-in-Some-refusal_to_reconnect-clause-refused : goal.returns-in-Some-refusal_to_reconnect-clause-refused
returns-in-Some-refusal_to_reconnect-clause-refused c =
    rw (set_same c.args.self.now.lists.clients c.args.i c.in-Some-get_mut.client.now (sym c.in-Some-get_mut.ensures.value), set_same c.args.self.now.kept c.args.i c.in-Some.kept.now (sym c.in-Some.ensures.value)) refl

pub catch_up-requires-clause-within : goal.catch_up-requires-clause-within
catch_up-requires-clause-within c = rw c.as_slice-log.ensures (received_within c.args.self.now c.args.i c.in-Some-get_mut.client.now c.in-Some.kept.now c.requires.sound (sym c.in-Some-get_mut.ensures.value) (sym c.in-Some.ensures.value))

pub catch_up-requires-clause-flight : goal.catch_up-requires-clause-flight
catch_up-requires-clause-flight c = rw c.as_slice-log.ensures (flight c.args.self.now c.args.i c.in-Some-get_mut.client.now c.in-Some.kept.now c.requires.sound (sym c.in-Some-get_mut.ensures.value) (sym c.in-Some.ensures.value))

pub catch_up-requires-clause-few : goal.catch_up-requires-clause-few
catch_up-requires-clause-few c = few_pending c.args.self.now c.args.i c.in-Some-get_mut.client.now c.in-Some.kept.now c.requires.sound (sym c.in-Some-get_mut.ensures.value) (sym c.in-Some.ensures.value)

pub catch_up-requires-clause-sound : goal.catch_up-requires-clause-sound
catch_up-requires-clause-sound c = here_sound c.args.self.now c.args.i c.in-Some-get_mut.client.now c.in-Some.kept.now c.requires.sound (sym c.in-Some-get_mut.ensures.value) (sym c.in-Some.ensures.value)

pub catch_up-requires-clause-fit : goal.catch_up-requires-clause-fit
catch_up-requires-clause-fit c = rw c.as_slice-log.ensures (rest_fits c.args.self.now c.args.i c.in-Some-get_mut.client.now c.in-Some.kept.now c.requires.sound (sym c.in-Some-get_mut.ensures.value) (sym c.in-Some.ensures.value))

pub catch_up-requires-clause-later : goal.catch_up-requires-clause-later
catch_up-requires-clause-later c = rw c.as_slice-log.ensures (waiting_fits c.args.self.now c.args.i c.in-Some-get_mut.client.now c.in-Some.kept.now c.requires.sound (sym c.in-Some-get_mut.ensures.value) (sym c.in-Some.ensures.value))

pub catch_up-requires-clause-few_names : goal.catch_up-requires-clause-few_names
catch_up-requires-clause-few_names c = few_kept c.args.self.now c.args.i c.in-Some-get_mut.client.now c.in-Some.kept.now c.requires.sound (sym c.in-Some-get_mut.ensures.value) (sym c.in-Some.ensures.value)

pub catch_up-requires-clause-names : goal.catch_up-requires-clause-names
catch_up-requires-clause-names c = pending_kept c.args.self.now c.args.i c.in-Some-get_mut.client.now c.in-Some.kept.now c.requires.sound (sym c.in-Some-get_mut.ensures.value) (sym c.in-Some.ensures.value)

pub catch_up-requires-clause-carried : goal.catch_up-requires-clause-carried
catch_up-requires-clause-carried c = rw c.as_slice-log.ensures (carried_low c.args.self.now c.args.i c.in-Some-get_mut.client.now c.in-Some.kept.now c.requires.sound (sym c.in-Some-get_mut.ensures.value) (sym c.in-Some.ensures.value))

pub catch_up-requires-clause-ids : goal.catch_up-requires-clause-ids
catch_up-requires-clause-ids c =
    let low = few_ids c.args.self.now c.args.i c.in-Some-get_mut.client.now c.in-Some.kept.now c.requires.sound (sym c.in-Some-get_mut.ensures.value) (sym c.in-Some.ensures.value) in
    omega (arith, low, c.requires.few)

pub enter-requires-clause-connected : goal.enter-requires-clause-connected
enter-requires-clause-connected c =
    returned_connected c.args.self.now c.args.i c.in-Some-get_mut.client.now c.catch_up.new.client c.requires.sound (sym c.in-Some-get_mut.ensures.value) (rw c.as_slice-log.ensures at c.in_ok-sent.ensures.client)

pub returns-clause-sound : goal.returns-clause-sound
returns-clause-sound c =
    let w = c.args.self.now in
    let client = c.in-Some-get_mut.client.now in
    let none = rw c.as_slice-log.ensures at (sym c.refusal_to_reconnect.ensures ∙ c.in_default-refusal_to_reconnect.is) in
    let may = may_reconnect w.lists.log client none in
    let is = rw c.as_slice-log.ensures at c.in_ok-sent.ensures.client in
    let up = rw c.as_slice-log.ensures at c.in_ok-sent.ensures.kept in
    rw c.in_ok-n.ensures.world
    (sound_returned w c.args.i client c.catch_up.new.client c.in-Some.kept.now c.catch_up.new.kept c.enter.new.self.known c.requires.sound (sym c.in-Some-get_mut.ensures.value) (sym c.in-Some.ensures.value) may.0.1 may.1 c.in_ok-n.ensures.known is up)
