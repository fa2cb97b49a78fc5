use Rattle.std.proofs.Common.{refl, sym}
use Rattle.st_world.specs.World.{abort}
use Rattle.st_plain.proofs.Acting.{abort_refused, next_with, one_at, sound_abort, world_refused}
use Rattle.st_plain.proofs.Everyone.{kept_none}
use Rattle.st_world_laws.proofs.Everyone.{set_same}
use Rattle.st_plain.proofs.Stepping.{sound_later}
use Rattle.st_plain.proofs.world.World.abort_transaction.Goals as goal

pub returns-in_default-clause-next : goal.returns-in_default-clause-next
returns-in_default-clause-next c = λ q at. absurd (kept_none _ _ _ _ _ q c.requires.sound.kept at (sym c.in_default.ensures.value))

pub returns-in_default-clause-sound : goal.returns-in_default-clause-sound
returns-in_default-clause-sound c = sound_later c.args.self.now.steps c.args.self.now c.requires.sound

pub returns-in_default-get_mut-clause-sound : goal.returns-in_default-get_mut-clause-sound
returns-in_default-get_mut-clause-sound c = rw (set_same c.args.self.now.kept c.args.i c.in-Some.kept.now (sym c.in-Some.ensures.value)) (sound_later c.args.self.now.steps c.args.self.now c.requires.sound)

pub returns-in_default-get_mut-clause-refused : goal.returns-in_default-get_mut-clause-refused
returns-in_default-get_mut-clause-refused c = rw (set_same c.args.self.now.kept c.args.i c.in-Some.kept.now (sym c.in-Some.ensures.value)) refl

pub abort-requires-clause-names : goal.abort-requires-clause-names
abort-requires-clause-names c = (one_at c.args.self.now c.args.i c.in-Some-get_mut.client.now c.in-Some.kept.now c.requires.sound (sym c.in-Some-get_mut.ensures.value) (sym c.in-Some.ensures.value)).kept.names

pub abort-requires-clause-few_names : goal.abort-requires-clause-few_names
abort-requires-clause-few_names c = (one_at c.args.self.now c.args.i c.in-Some-get_mut.client.now c.in-Some.kept.now c.requires.sound (sym c.in-Some-get_mut.ensures.value) (sym c.in-Some.ensures.value)).client.few_names

pub returns-clause-next : goal.returns-clause-next
returns-clause-next c = λ q at.
    next_with c.args.self.now.lists c.args.i c.in-Some-get_mut.client.now q c.abort.new.client (λ x. abort x 0 x.transaction) c.abort.result (sym c.in-Some-get_mut.ensures.value) at c.abort.ensures.answer

pub returns-clause-sound : goal.returns-clause-sound
returns-clause-sound c = sound_abort c.args.self.now c.args.i c.in-Some-get_mut.client.now c.in-Some.kept.now c.requires.sound (sym c.in-Some-get_mut.ensures.value) (sym c.in-Some.ensures.value) c.abort.new.client c.abort.new.kept c.abort.result c.abort.ensures.answer c.abort.ensures.kept

pub returns-clause-refused : goal.returns-clause-refused
returns-clause-refused c =
    world_refused c.args.self.now c.args.i c.in-Some-get_mut.client.now c.abort.new.client c.in-Some.kept.now c.abort.new.kept c.abort.result (sym c.in-Some-get_mut.ensures.value) (sym c.in-Some.ensures.value) (abort_refused c.in-Some-get_mut.client.now c.abort.new.client c.in-Some.kept.now c.abort.new.kept c.in-Some-get_mut.client.now.transaction c.abort.result c.abort.ensures.answer c.abort.ensures.kept)
