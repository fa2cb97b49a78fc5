use Rattle.std.proofs.Common.{arith, refl, sym}
use Rattle.st_plain.proofs.Acting.{few_ids, keeps_ids, one_at}
use Rattle.st_plain.proofs.BranchWorld.{can_merge, few_own, left_world, many, merge_next, merges_on}
use Rattle.st_plain.proofs.Everyone.{kept_none}
use Rattle.st_world_laws.proofs.Everyone.{set_same}
use Rattle.st_plain.proofs.Stepping.{sound_later}
use Rattle.st_plain.proofs.world.World.merge.Goals as goal

pub returns-in_default-clause-next : goal.returns-in_default-clause-next
returns-in_default-clause-next c = λ q l at line. absurd (kept_none _ _ _ _ _ q c.requires.sound.kept at (sym c.in_default.ensures.value))

pub returns-in_default-clause-sound : goal.returns-in_default-clause-sound
returns-in_default-clause-sound c = sound_later c.args.self.now.steps c.args.self.now c.requires.sound

pub returns-in_default-get_mut-clause-sound : goal.returns-in_default-get_mut-clause-sound
returns-in_default-get_mut-clause-sound c = rw (set_same c.args.self.now.kept c.args.i c.in-Some.kept.now (sym c.in-Some.ensures.value)) (sound_later c.args.self.now.steps c.args.self.now c.requires.sound)

pub returns-in_default-get_mut-clause-refused : goal.returns-in_default-get_mut-clause-refused
returns-in_default-get_mut-clause-refused c = rw (set_same c.args.self.now.kept c.args.i c.in-Some.kept.now (sym c.in-Some.ensures.value)) refl

pub merge-requires-clause-heads : goal.merge-requires-clause-heads
merge-requires-clause-heads c = many c.args.self.now c.args.i c.in-Some-get_mut.client.now c.in-Some.kept.now c.requires.sound (sym c.in-Some-get_mut.ensures.value) (sym c.in-Some.ensures.value) c.args.number

pub merge-requires-clause-own : goal.merge-requires-clause-own
merge-requires-clause-own c = few_own c.args.self.now c.args.i c.in-Some-get_mut.client.now c.in-Some.kept.now c.requires.sound (sym c.in-Some-get_mut.ensures.value) (sym c.in-Some.ensures.value) c.args.number

pub merge-requires-clause-pending : goal.merge-requires-clause-pending
merge-requires-clause-pending c = (one_at c.args.self.now c.args.i c.in-Some-get_mut.client.now c.in-Some.kept.now c.requires.sound (sym c.in-Some-get_mut.ensures.value) (sym c.in-Some.ensures.value)).client.few

pub merge-requires-clause-can : goal.merge-requires-clause-can
merge-requires-clause-can c = can_merge c.args.self.now c.args.i c.in-Some-get_mut.client.now c.in-Some.kept.now c.requires.sound (sym c.in-Some-get_mut.ensures.value) (sym c.in-Some.ensures.value) c.args.number

pub merge-requires-clause-few : goal.merge-requires-clause-few
merge-requires-clause-few c = omega (arith, few_ids c.args.self.now c.args.i c.in-Some-get_mut.client.now c.requires.sound (sym c.in-Some-get_mut.ensures.value), c.requires.few)

pub merge-requires-clause-taken : goal.merge-requires-clause-taken
merge-requires-clause-taken c = keeps_ids c.args.self.now c.args.i c.in-Some-get_mut.client.now c.in-Some.kept.now c.requires.sound (sym c.in-Some-get_mut.ensures.value) (sym c.in-Some.ensures.value)

pub returns-clause-next : goal.returns-clause-next
returns-clause-next c = λ q l at line. merge_next c.args.self.now c.args.i c.in-Some-get_mut.client.now c.in-Some.kept.now c.requires.sound (sym c.in-Some-get_mut.ensures.value) (sym c.in-Some.ensures.value) c.args.number c.merge.new.client c.merge.new.kept c.in_ok-answer.answer c.in_ok-answer.ensures.none c.in_ok-answer.ensures.merged q at

pub returns-clause-sound : goal.returns-clause-sound
returns-clause-sound c = (merges_on c.args.self.now c.args.i c.in-Some-get_mut.client.now c.in-Some.kept.now c.requires.sound (sym c.in-Some-get_mut.ensures.value) (sym c.in-Some.ensures.value) c.args.number c.merge.new.client c.merge.new.kept c.in_ok-answer.answer c.in_ok-answer.ensures.none c.in_ok-answer.ensures.merged).0

pub returns-clause-refused : goal.returns-clause-refused
returns-clause-refused c = left_world c.args.self.now c.args.i c.in-Some-get_mut.client.now c.in-Some.kept.now c.requires.sound (sym c.in-Some-get_mut.ensures.value) (sym c.in-Some.ensures.value) c.args.number c.merge.new.client c.merge.new.kept c.in_ok-answer.answer (merges_on c.args.self.now c.args.i c.in-Some-get_mut.client.now c.in-Some.kept.now c.requires.sound (sym c.in-Some-get_mut.ensures.value) (sym c.in-Some.ensures.value) c.args.number c.merge.new.client c.merge.new.kept c.in_ok-answer.answer c.in_ok-answer.ensures.none c.in_ok-answer.ensures.merged).1
