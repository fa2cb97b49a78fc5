use Rattle.std.proofs.Common.{refl, sym, arith}
use Rattle.std.specs.List.{slice_get}
use Rattle.st_doc.specs.Doc.{document_of}
use Rattle.st_script.specs.Header.{header_view}
use Rattle.st_plain.proofs.Acting.{can_deliver, delivery_refused, next_delivered, one_at, sound_delivery, world_refused}
use Rattle.st_world_laws.proofs.Clients.{received_sound}
use Rattle.st_plain.proofs.Everyone.{kept_none}
use Rattle.st_world_laws.proofs.Everyone.{set_same}
use Rattle.st_plain.proofs.Stepping.{sound_later, start_of}
use Rattle.st_plain.proofs.world.World.deliver.Goals as goal

pub returns-in_default-clause-next : goal.returns-in_default-clause-next
returns-in_default-clause-next c = λ q at. absurd (kept_none _ _ _ _ _ q c.requires.sound.kept at (sym c.in_default.ensures.value))

pub returns-in_default-clause-sound : goal.returns-in_default-clause-sound
returns-in_default-clause-sound c = sound_later c.args.self.now.steps c.args.self.now c.requires.sound

pub returns-in_default-get_mut-clause-sound : goal.returns-in_default-get_mut-clause-sound
returns-in_default-get_mut-clause-sound c = rw (set_same c.args.self.now.kept c.args.i c.in-Some.kept.now (sym c.in-Some.ensures.value)) (sound_later c.args.self.now.steps c.args.self.now c.requires.sound)

pub deliver-requires-clause-entries : goal.deliver-requires-clause-entries
deliver-requires-clause-entries c = rw c.as_slice-log.ensures (omega (arith, c.requires.sound.entries))

pub deliver-requires-clause-sound : goal.deliver-requires-clause-sound
deliver-requires-clause-sound c =
    let w = c.args.self.now in
    let one = one_at w c.args.i c.in-Some-get_mut.client.now c.in-Some.kept.now c.requires.sound (sym c.in-Some-get_mut.ensures.value) (sym c.in-Some.ensures.value) in
    received_sound (header_view w.header) (start_of w w.steps c.requires.sound) w.lists.log c.in-Some-get_mut.client.now (document_of c.in-Some.kept.now.received) one.client one.kept.received

pub deliver-requires-clause-next : goal.deliver-requires-clause-next
deliver-requires-clause-next c =
    rw c.as_slice-log.ensures (can_deliver c.args.self.now c.args.i c.in-Some-get_mut.client.now c.in-Some.kept.now c.requires.sound (sym c.in-Some-get_mut.ensures.value) (sym c.in-Some.ensures.value))

pub deliver-requires-clause-few : goal.deliver-requires-clause-few
deliver-requires-clause-few c =
    let one = one_at c.args.self.now c.args.i c.in-Some-get_mut.client.now c.in-Some.kept.now c.requires.sound (sym c.in-Some-get_mut.ensures.value) (sym c.in-Some.ensures.value) in
    omega (arith, one.kept.names, one.client.few_names)

pub returns-clause-next : goal.returns-clause-next
returns-clause-next c = λ q at.
    let w = c.args.self.now in
    let client = c.in-Some-get_mut.client.now in
    let one = one_at w c.args.i client c.in-Some.kept.now c.requires.sound (sym c.in-Some-get_mut.ensures.value) (sym c.in-Some.ensures.value) in
    let done = rw c.as_slice-log.ensures at c.in_ok-answer.ensures.answer in
    next_delivered (header_view w.header) w.lists c.args.i client q c.deliver.new.client (document_of c.in-Some.kept.now.received) c.in_ok-answer.answer (sym c.in-Some-get_mut.ensures.value) at one.kept.received done

pub returns-clause-sound : goal.returns-clause-sound
returns-clause-sound c =
    let done = rw c.as_slice-log.ensures at c.in_ok-answer.ensures.answer in
    let moved = rw c.as_slice-log.ensures at c.in_ok-answer.ensures.kept in
    sound_delivery c.args.self.now c.args.i c.in-Some-get_mut.client.now c.in-Some.kept.now c.requires.sound (sym c.in-Some-get_mut.ensures.value) (sym c.in-Some.ensures.value) c.deliver.new.client c.deliver.new.kept
    (document_of c.in-Some.kept.now.received) c.in_ok-answer.answer done moved

pub returns-in_default-get_mut-clause-refused : goal.returns-in_default-get_mut-clause-refused
returns-in_default-get_mut-clause-refused c = rw (set_same c.args.self.now.kept c.args.i c.in-Some.kept.now (sym c.in-Some.ensures.value)) refl

pub returns-clause-refused : goal.returns-clause-refused
returns-clause-refused c =
    let w = c.args.self.now in
    let client = c.in-Some-get_mut.client.now in
    let done = rw c.as_slice-log.ensures at c.in_ok-answer.ensures.answer in
    let moved = rw c.as_slice-log.ensures at c.in_ok-answer.ensures.kept in
    world_refused w c.args.i client c.deliver.new.client c.in-Some.kept.now c.deliver.new.kept c.in_ok-answer.answer (sym c.in-Some-get_mut.ensures.value) (sym c.in-Some.ensures.value)
    (delivery_refused client c.deliver.new.client c.in-Some.kept.now c.deliver.new.kept client.transaction (document_of c.in-Some.kept.now.received) (slice_get w.lists.log client.received) c.in_ok-answer.answer done moved)
