use Rattle.std.proofs.Common.{sym, arith}
use Rattle.st_plain.proofs.Acting.{few_ids}
use Rattle.st_plain.proofs.BranchNext.{begin_next, begin_sound_on, begin_stays_on}
use Rattle.st_plain.proofs.BranchWorld.{few_own}
use Rattle.st_plain.proofs.Everyone.{kept_none}
use Rattle.st_plain.proofs.Stepping.{sound_later}
use Rattle.st_plain.proofs.world.World.begin_on_branch.Goals as goal

pub returns-in_default-clause-next : goal.returns-in_default-clause-next
returns-in_default-clause-next c = λ q l at line. absurd (kept_none _ _ _ _ _ q c.requires.sound.kept at (sym c.in_default.ensures))

pub returns-in_default-clause-sound : goal.returns-in_default-clause-sound
returns-in_default-clause-sound c = sound_later c.args.self.now.steps c.args.self.now c.requires.sound

pub begin-requires-clause-few : goal.begin-requires-clause-few
begin-requires-clause-few c = omega (arith, c.requires.few, few_ids c.args.self.now c.args.i c.in-Some-get_mut.client.now c.requires.sound (sym c.in-Some-get_mut.ensures.value))

pub begin-requires-clause-own : goal.begin-requires-clause-own
begin-requires-clause-own c = few_own c.args.self.now c.args.i c.in-Some-get_mut.client.now c.in-Some.kept.now c.requires.sound (sym c.in-Some-get_mut.ensures.value) (sym c.in-Some.ensures) c.args.number

pub returns-clause-next : goal.returns-clause-next
returns-clause-next c = begin_next c.args.self.now c.args.i c.in-Some-get_mut.client.now c.in-Some.kept.now c.requires.sound (sym c.in-Some-get_mut.ensures.value) (sym c.in-Some.ensures) c.args.number c.requires.other c.begin.new.client c.begin.result c.begin.ensures.there c.begin.ensures.absent

pub returns-clause-sound : goal.returns-clause-sound
returns-clause-sound c = begin_sound_on c.args.self.now c.args.i c.in-Some-get_mut.client.now c.in-Some.kept.now c.requires.sound (sym c.in-Some-get_mut.ensures.value) (sym c.in-Some.ensures) c.args.number c.requires.other c.begin.new.client c.begin.result c.begin.ensures.there c.begin.ensures.absent

pub returns-clause-refused : goal.returns-clause-refused
returns-clause-refused c = begin_stays_on c.args.self.now c.args.i c.in-Some-get_mut.client.now c.in-Some.kept.now c.requires.sound (sym c.in-Some-get_mut.ensures.value) (sym c.in-Some.ensures) c.args.number c.requires.other c.begin.new.client c.begin.result c.begin.ensures.there c.begin.ensures.absent
