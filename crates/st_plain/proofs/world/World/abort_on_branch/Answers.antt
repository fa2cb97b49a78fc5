use Rattle.std.proofs.Common.{refl, sym, arith}
use Rattle.st_plain.proofs.Acting.{one_at}
use Rattle.st_plain.proofs.BranchActs.{counted}
use Rattle.st_plain.proofs.BranchNext.{abort_next, abort_sound_on, abort_stays_on}
use Rattle.st_plain.proofs.Everyone.{kept_none}
use Rattle.st_world_laws.proofs.Everyone.{set_same}
use Rattle.st_plain.proofs.Stepping.{sound_later}
use Rattle.st_plain.proofs.world.World.abort_on_branch.Goals as goal

pub returns-in_default-clause-next : goal.returns-in_default-clause-next
returns-in_default-clause-next c = λ q l at line. absurd (kept_none _ _ _ _ _ q c.requires.sound.kept at (sym c.in_default.ensures.value))

pub returns-in_default-clause-sound : goal.returns-in_default-clause-sound
returns-in_default-clause-sound c = sound_later c.args.self.now.steps c.args.self.now c.requires.sound

pub returns-in_default-get_mut-clause-sound : goal.returns-in_default-get_mut-clause-sound
returns-in_default-get_mut-clause-sound c = rw (set_same c.args.self.now.kept c.args.i c.in-Some.kept.now (sym c.in-Some.ensures.value)) (sound_later c.args.self.now.steps c.args.self.now c.requires.sound)

pub returns-in_default-get_mut-clause-refused : goal.returns-in_default-get_mut-clause-refused
returns-in_default-get_mut-clause-refused c = rw (set_same c.args.self.now.kept c.args.i c.in-Some.kept.now (sym c.in-Some.ensures.value)) refl

pub abort-requires-clause-names : goal.abort-requires-clause-names
abort-requires-clause-names c = let one = one_at c.args.self.now c.args.i c.in-Some-get_mut.client.now c.in-Some.kept.now c.requires.sound (sym c.in-Some-get_mut.ensures.value) (sym c.in-Some.ensures.value) in omega (arith, one.kept.names, one.client.few_names)

pub abort-requires-clause-counted : goal.abort-requires-clause-counted
abort-requires-clause-counted c = λ j b g x. counted c.args.self.now c.args.i c.in-Some-get_mut.client.now c.in-Some.kept.now c.requires.sound (sym c.in-Some-get_mut.ensures.value) (sym c.in-Some.ensures.value) c.args.number c.requires.other j b g x

pub returns-clause-next : goal.returns-clause-next
returns-clause-next c = abort_next c.args.self.now c.args.i c.in-Some-get_mut.client.now c.in-Some.kept.now c.requires.sound (sym c.in-Some-get_mut.ensures.value) (sym c.in-Some.ensures.value) c.args.number c.requires.other c.abort.new.client c.abort.new.kept c.abort.result c.abort.ensures.there c.abort.ensures.absent

pub returns-clause-sound : goal.returns-clause-sound
returns-clause-sound c = abort_sound_on c.args.self.now c.args.i c.in-Some-get_mut.client.now c.in-Some.kept.now c.requires.sound (sym c.in-Some-get_mut.ensures.value) (sym c.in-Some.ensures.value) c.args.number c.requires.other c.abort.new.client c.abort.new.kept c.abort.result c.abort.ensures.there c.abort.ensures.absent

pub returns-clause-refused : goal.returns-clause-refused
returns-clause-refused c = abort_stays_on c.args.self.now c.args.i c.in-Some-get_mut.client.now c.in-Some.kept.now c.requires.sound (sym c.in-Some-get_mut.ensures.value) (sym c.in-Some.ensures.value) c.args.number c.requires.other c.abort.new.client c.abort.new.kept c.abort.result c.abort.ensures.there c.abort.ensures.absent
