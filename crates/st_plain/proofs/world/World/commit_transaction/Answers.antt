use Rattle.std.proofs.Common.{arith, refl, sym}
use Rattle.st_world.specs.World.{commit}
use Rattle.st_plain.proofs.Acting.{commit_fits, commit_refused, few_ids, keeps_ids, line_sound, next_with, sound_commit, world_refused}
use Rattle.st_plain.proofs.Everyone.{kept_none}
use Rattle.st_world_laws.proofs.Everyone.{set_same}
use Rattle.st_plain.proofs.Stepping.{sound_later}
use Rattle.st_plain.proofs.world.World.commit_transaction.Goals as goal

pub returns-in_default-clause-next : goal.returns-in_default-clause-next
returns-in_default-clause-next c = λ q at. absurd (kept_none _ _ _ _ _ q c.requires.sound.kept at (sym c.in_default.ensures.value))

pub returns-in_default-clause-sound : goal.returns-in_default-clause-sound
returns-in_default-clause-sound c = sound_later c.args.self.now.steps c.args.self.now c.requires.sound

pub returns-in_default-get_mut-clause-sound : goal.returns-in_default-get_mut-clause-sound
returns-in_default-get_mut-clause-sound c = rw (set_same c.args.self.now.kept c.args.i c.in-Some.kept.now (sym c.in-Some.ensures.value)) (sound_later c.args.self.now.steps c.args.self.now c.requires.sound)

pub returns-in_default-get_mut-clause-refused : goal.returns-in_default-get_mut-clause-refused
returns-in_default-get_mut-clause-refused c = rw (set_same c.args.self.now.kept c.args.i c.in-Some.kept.now (sym c.in-Some.ensures.value)) refl

pub commit-requires-clause-sound : goal.commit-requires-clause-sound
commit-requires-clause-sound c = line_sound c.args.self.now c.args.i c.in-Some-get_mut.client.now c.in-Some.kept.now c.requires.sound (sym c.in-Some-get_mut.ensures.value) (sym c.in-Some.ensures.value)

pub commit-requires-clause-fits : goal.commit-requires-clause-fits
commit-requires-clause-fits c = commit_fits c.args.self.now c.args.i c.in-Some-get_mut.client.now c.in-Some.kept.now c.requires.sound (sym c.in-Some-get_mut.ensures.value) (sym c.in-Some.ensures.value)

pub commit-requires-clause-few : goal.commit-requires-clause-few
commit-requires-clause-few c = omega (arith, few_ids c.args.self.now c.args.i c.in-Some-get_mut.client.now c.requires.sound (sym c.in-Some-get_mut.ensures.value), c.requires.few)

pub commit-requires-clause-taken : goal.commit-requires-clause-taken
commit-requires-clause-taken c = keeps_ids c.args.self.now c.args.i c.in-Some-get_mut.client.now c.in-Some.kept.now c.requires.sound (sym c.in-Some-get_mut.ensures.value) (sym c.in-Some.ensures.value)

pub returns-clause-next : goal.returns-clause-next
returns-clause-next c = λ q at.
    next_with c.args.self.now.lists c.args.i c.in-Some-get_mut.client.now q c.commit.new.client (λ x. commit x 0 x.transaction) c.in_ok-answer.answer (sym c.in-Some-get_mut.ensures.value) at c.in_ok-answer.ensures.answer

pub returns-clause-sound : goal.returns-clause-sound
returns-clause-sound c = sound_commit c.args.self.now c.args.i c.in-Some-get_mut.client.now c.in-Some.kept.now c.requires.sound (sym c.in-Some-get_mut.ensures.value) (sym c.in-Some.ensures.value) c.commit.new.client c.commit.new.kept c.in_ok-answer.answer c.in_ok-answer.ensures.answer c.in_ok-answer.ensures.kept

pub returns-clause-refused : goal.returns-clause-refused
returns-clause-refused c =
    world_refused c.args.self.now c.args.i c.in-Some-get_mut.client.now c.commit.new.client c.in-Some.kept.now c.commit.new.kept c.in_ok-answer.answer (sym c.in-Some-get_mut.ensures.value) (sym c.in-Some.ensures.value) (commit_refused c.in-Some-get_mut.client.now c.commit.new.client c.in-Some.kept.now c.commit.new.kept c.in-Some-get_mut.client.now.transaction c.in_ok-answer.answer c.in_ok-answer.ensures.answer c.in_ok-answer.ensures.kept)
