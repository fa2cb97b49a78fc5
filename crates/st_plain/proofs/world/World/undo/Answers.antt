use Rattle.std.proofs.Common.{◌≡◌, refl, sym, arith}
use Rattle.st_lists.specs.Log.{floor}
use Rattle.st_script.specs.Header.{header_view}
use Rattle.st_plain.proofs.Acting.{few_ids, keeps_ids, line_sound, one_at, world_refused}
use Rattle.st_plain.proofs.Everyone.{kept_none}
use Rattle.st_world_laws.proofs.Everyone.{set_same}
use Rattle.st_plain.proofs.Stepping.{sound_later}
use Rattle.st_plain.proofs.Undone.{can_undo, next_undone, sound_undo, undo_done, undo_refused, way_by}
use Rattle.st_plain.proofs.world.World.undo.Goals as goal

pub returns-in_default-clause-next : goal.returns-in_default-clause-next
returns-in_default-clause-next c = λ q at. absurd (kept_none _ _ _ _ _ q c.requires.sound.kept at (sym c.in_default.ensures.value))

pub returns-in_default-clause-sound : goal.returns-in_default-clause-sound
returns-in_default-clause-sound c = sound_later c.args.self.now.steps c.args.self.now c.requires.sound

pub returns-in_default-get_mut-clause-sound : goal.returns-in_default-get_mut-clause-sound
returns-in_default-get_mut-clause-sound c = rw (set_same c.args.self.now.kept c.args.i c.in-Some.kept.now (sym c.in-Some.ensures.value)) (sound_later c.args.self.now.steps c.args.self.now c.requires.sound)

pub returns-in_default-get_mut-clause-refused : goal.returns-in_default-get_mut-clause-refused
returns-in_default-get_mut-clause-refused c = rw (set_same c.args.self.now.kept c.args.i c.in-Some.kept.now (sym c.in-Some.ensures.value)) refl

pub undo-requires-clause-few : goal.undo-requires-clause-few
undo-requires-clause-few c = omega (arith, few_ids c.args.self.now c.args.i c.in-Some-get_mut.client.now c.requires.sound (sym c.in-Some-get_mut.ensures.value))

pub undo-requires-clause-pending : goal.undo-requires-clause-pending
undo-requires-clause-pending c = (one_at c.args.self.now c.args.i c.in-Some-get_mut.client.now c.in-Some.kept.now c.requires.sound (sym c.in-Some-get_mut.ensures.value) (sym c.in-Some.ensures.value)).client.few

pub undo-requires-clause-sound : goal.undo-requires-clause-sound
undo-requires-clause-sound c = line_sound c.args.self.now c.args.i c.in-Some-get_mut.client.now c.in-Some.kept.now c.requires.sound (sym c.in-Some-get_mut.ensures.value) (sym c.in-Some.ensures.value)

pub undo-requires-clause-can : goal.undo-requires-clause-can
undo-requires-clause-can c =
    let w = c.args.self.now in
    let client = c.in-Some-get_mut.client.now in
    let s = c.requires.sound in
    let at_c = sym c.in-Some-get_mut.ensures.value in
    let at_k = sym c.in-Some.ensures.value in
    let low : c.floor-low.result ≡ floor w.header.history w.lists.log client.received =
    (rw c.as_slice.ensures at c.floor-low.ensures) w.lists.log s.minima (one_at w c.args.i client c.in-Some.kept.now s at_c at_k).client.within in
    can_undo w c.args.i client c.in-Some.kept.now s at_c at_k c.args.rev c.floor-low.result low

pub undo-requires-clause-taken : goal.undo-requires-clause-taken
undo-requires-clause-taken c = keeps_ids c.args.self.now c.args.i c.in-Some-get_mut.client.now c.in-Some.kept.now c.requires.sound (sym c.in-Some-get_mut.ensures.value) (sym c.in-Some.ensures.value)

pub returns-clause-next : goal.returns-clause-next
returns-clause-next c = λ q at.
    let w = c.args.self.now in
    let client = c.in-Some-get_mut.client.now in
    let s = c.requires.sound in
    let at_c = sym c.in-Some-get_mut.ensures.value in
    let at_k = sym c.in-Some.ensures.value in
    let low : c.floor-low.result ≡ floor w.header.history w.lists.log client.received =
    (rw c.as_slice.ensures at c.floor-low.ensures) w.lists.log s.minima (one_at w c.args.i client c.in-Some.kept.now s at_c at_k).client.within in
    next_undone (header_view w.header) w.lists c.args.i client q c.undo.new.client c.args.rev c.in_ok-answer.answer at_c at
    (undo_done w c.args.i client c.in-Some.kept.now s at_c at_k c.args.rev c.floor-low.result low c.undo.new.client c.undo.new.kept c.in_ok-answer.answer c.in_ok-answer.ensures.answer)

pub returns-clause-sound : goal.returns-clause-sound
returns-clause-sound c =
    let w = c.args.self.now in
    let client = c.in-Some-get_mut.client.now in
    let s = c.requires.sound in
    let at_c = sym c.in-Some-get_mut.ensures.value in
    let at_k = sym c.in-Some.ensures.value in
    let low : c.floor-low.result ≡ floor w.header.history w.lists.log client.received =
    (rw c.as_slice.ensures at c.floor-low.ensures) w.lists.log s.minima (one_at w c.args.i client c.in-Some.kept.now s at_c at_k).client.within in
    sound_undo w c.args.i client c.in-Some.kept.now s at_c at_k c.args.rev c.floor-low.result low c.undo.new.client c.undo.new.kept c.in_ok-answer.answer c.in_ok-answer.ensures.answer c.in_ok-answer.ensures.kept

pub returns-clause-refused : goal.returns-clause-refused
returns-clause-refused c =
    let w = c.args.self.now in
    let client = c.in-Some-get_mut.client.now in
    let kept = c.in-Some.kept.now in
    let at_c = sym c.in-Some-get_mut.ensures.value in
    let at_k = sym c.in-Some.ensures.value in
    let r = way_by w c.args.i client kept c.requires.sound at_c at_k c.args.rev c.floor-low.result in
    world_refused w c.args.i client c.undo.new.client kept c.undo.new.kept c.in_ok-answer.answer at_c at_k
    (undo_refused client c.undo.new.client kept c.undo.new.kept client.transaction r c.in_ok-answer.answer c.in_ok-answer.ensures.answer c.in_ok-answer.ensures.kept)
