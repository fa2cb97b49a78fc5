use Rattle.std.proofs.Common.{refl, sym}
use Rattle.st_plain.proofs.BranchWorld.{can_rebase, left_world, many, rebase_next, rebases_on}
use Rattle.st_plain.proofs.Everyone.{kept_none}
use Rattle.st_world_laws.proofs.Everyone.{set_same}
use Rattle.st_plain.proofs.Stepping.{sound_later}
use Rattle.st_plain.proofs.world.World.rebase.Goals as goal

pub returns-in_default-clause-next : goal.returns-in_default-clause-next
returns-in_default-clause-next c = λ q l at line. absurd (kept_none _ _ _ _ _ q c.requires.sound.kept at (sym c.in_default.ensures.value))

pub returns-in_default-clause-sound : goal.returns-in_default-clause-sound
returns-in_default-clause-sound c = sound_later c.args.self.now.steps c.args.self.now c.requires.sound

pub returns-in_default-get_mut-clause-sound : goal.returns-in_default-get_mut-clause-sound
returns-in_default-get_mut-clause-sound c = rw (set_same c.args.self.now.kept c.args.i c.in-Some.kept.now (sym c.in-Some.ensures.value)) (sound_later c.args.self.now.steps c.args.self.now c.requires.sound)

pub returns-in_default-get_mut-clause-refused : goal.returns-in_default-get_mut-clause-refused
returns-in_default-get_mut-clause-refused c = rw (set_same c.args.self.now.kept c.args.i c.in-Some.kept.now (sym c.in-Some.ensures.value)) refl

pub rebase-requires-clause-heads : goal.rebase-requires-clause-heads
rebase-requires-clause-heads c = many c.args.self.now c.args.i c.in-Some-get_mut.client.now c.in-Some.kept.now c.requires.sound (sym c.in-Some-get_mut.ensures.value) (sym c.in-Some.ensures.value) c.args.number

pub rebase-requires-clause-can : goal.rebase-requires-clause-can
rebase-requires-clause-can c = can_rebase c.args.self.now c.args.i c.in-Some-get_mut.client.now c.in-Some.kept.now c.requires.sound (sym c.in-Some-get_mut.ensures.value) (sym c.in-Some.ensures.value) c.args.number

pub returns-clause-next : goal.returns-clause-next
returns-clause-next c = λ q l at line. rebase_next c.args.self.now c.args.i c.in-Some-get_mut.client.now c.in-Some.kept.now c.requires.sound (sym c.in-Some-get_mut.ensures.value) (sym c.in-Some.ensures.value) c.args.number c.rebase.new.client c.rebase.new.kept c.in_ok-answer.answer c.in_ok-answer.ensures.none c.in_ok-answer.ensures.rebased q at

pub returns-clause-sound : goal.returns-clause-sound
returns-clause-sound c = (rebases_on c.args.self.now c.args.i c.in-Some-get_mut.client.now c.in-Some.kept.now c.requires.sound (sym c.in-Some-get_mut.ensures.value) (sym c.in-Some.ensures.value) c.args.number c.rebase.new.client c.rebase.new.kept c.in_ok-answer.answer c.in_ok-answer.ensures.none c.in_ok-answer.ensures.rebased).0

pub returns-clause-refused : goal.returns-clause-refused
returns-clause-refused c = left_world c.args.self.now c.args.i c.in-Some-get_mut.client.now c.in-Some.kept.now c.requires.sound (sym c.in-Some-get_mut.ensures.value) (sym c.in-Some.ensures.value) c.args.number c.rebase.new.client c.rebase.new.kept c.in_ok-answer.answer (rebases_on c.args.self.now c.args.i c.in-Some-get_mut.client.now c.in-Some.kept.now c.requires.sound (sym c.in-Some-get_mut.ensures.value) (sym c.in-Some.ensures.value) c.args.number c.rebase.new.client c.rebase.new.kept c.in_ok-answer.answer c.in_ok-answer.ensures.none c.in_ok-answer.ensures.rebased).1
