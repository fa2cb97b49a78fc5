use Rattle.std.proofs.Common.{refl, sym}
use Rattle.st_plain.proofs.Acting.{one_at}
use Rattle.st_plain.proofs.BranchWorld.{drop_next, drops_on, left_world, many}
use Rattle.st_plain.proofs.Everyone.{kept_none}
use Rattle.st_world_laws.proofs.Everyone.{set_same}
use Rattle.st_plain.proofs.Stepping.{sound_later}
use Rattle.st_plain.proofs.world.World.drop_branch.Goals as goal

pub returns-in_default-clause-next : goal.returns-in_default-clause-next
returns-in_default-clause-next c = λ q l at line. absurd (kept_none _ _ _ _ _ q c.requires.sound.kept at (sym c.in_default.ensures.value))

pub returns-in_default-clause-sound : goal.returns-in_default-clause-sound
returns-in_default-clause-sound c = sound_later c.args.self.now.steps c.args.self.now c.requires.sound

pub returns-in_default-get_mut-clause-sound : goal.returns-in_default-get_mut-clause-sound
returns-in_default-get_mut-clause-sound c = rw (set_same c.args.self.now.kept c.args.i c.in-Some.kept.now (sym c.in-Some.ensures.value)) (sound_later c.args.self.now.steps c.args.self.now c.requires.sound)

pub returns-in_default-get_mut-clause-refused : goal.returns-in_default-get_mut-clause-refused
returns-in_default-get_mut-clause-refused c = rw (set_same c.args.self.now.kept c.args.i c.in-Some.kept.now (sym c.in-Some.ensures.value)) refl

pub drop_branch-requires-clause-heads : goal.drop_branch-requires-clause-heads
drop_branch-requires-clause-heads c = many c.args.self.now c.args.i c.in-Some-get_mut.client.now c.in-Some.kept.now c.requires.sound (sym c.in-Some-get_mut.ensures.value) (sym c.in-Some.ensures.value) c.args.number

pub drop_branch-requires-clause-names : goal.drop_branch-requires-clause-names
drop_branch-requires-clause-names c = (one_at c.args.self.now c.args.i c.in-Some-get_mut.client.now c.in-Some.kept.now c.requires.sound (sym c.in-Some-get_mut.ensures.value) (sym c.in-Some.ensures.value)).kept.names

pub drop_branch-requires-clause-few_names : goal.drop_branch-requires-clause-few_names
drop_branch-requires-clause-few_names c = (one_at c.args.self.now c.args.i c.in-Some-get_mut.client.now c.in-Some.kept.now c.requires.sound (sym c.in-Some-get_mut.ensures.value) (sym c.in-Some.ensures.value)).client.few_names

pub returns-clause-next : goal.returns-clause-next
returns-clause-next c = λ q l at line. drop_next c.args.self.now c.args.i c.in-Some-get_mut.client.now c.in-Some.kept.now c.requires.sound (sym c.in-Some-get_mut.ensures.value) (sym c.in-Some.ensures.value) c.args.number c.drop_branch.new.client c.drop_branch.new.kept c.drop_branch.result c.drop_branch.ensures.none c.drop_branch.ensures.dropped q at

pub returns-clause-sound : goal.returns-clause-sound
returns-clause-sound c = (drops_on c.args.self.now c.args.i c.in-Some-get_mut.client.now c.in-Some.kept.now c.requires.sound (sym c.in-Some-get_mut.ensures.value) (sym c.in-Some.ensures.value) c.args.number c.drop_branch.new.client c.drop_branch.new.kept c.drop_branch.result c.drop_branch.ensures.none c.drop_branch.ensures.dropped).0

pub returns-clause-refused : goal.returns-clause-refused
returns-clause-refused c = left_world c.args.self.now c.args.i c.in-Some-get_mut.client.now c.in-Some.kept.now c.requires.sound (sym c.in-Some-get_mut.ensures.value) (sym c.in-Some.ensures.value) c.args.number c.drop_branch.new.client c.drop_branch.new.kept c.drop_branch.result (drops_on c.args.self.now c.args.i c.in-Some-get_mut.client.now c.in-Some.kept.now c.requires.sound (sym c.in-Some-get_mut.ensures.value) (sym c.in-Some.ensures.value) c.args.number c.drop_branch.new.client c.drop_branch.new.kept c.drop_branch.result c.drop_branch.ensures.none c.drop_branch.ensures.dropped).1
