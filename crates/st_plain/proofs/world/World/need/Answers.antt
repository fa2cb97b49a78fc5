use Rattle.std.proofs.Common.{refl, sym, arith}
use Rattle.st_edits.specs.Resolve.{need}
use Rattle.st_script.specs.Header.{header_view}
use Rattle.st_lists.specs.Lines.{main_line}
use Rattle.st_world.specs.World.{IsAfterNeed, next_names}
use Rattle.st_world.specs.declared.edit_word.EditWord.TheVariants as word
use Rattle.st_plain.proofs.Acting.{can_take, few_ids, keeps_ids, line_sound, need_meant, need_refused, next_done, one_at, shown, shown_of, sound_need, world_refused}
use Rattle.st_plain.proofs.Everyone.{kept_none}
use Rattle.st_world_laws.proofs.Everyone.{set_same}
use Rattle.st_plain.proofs.Stepping.{sound_later}
use Rattle.st_plain.proofs.world.World.need.Goals as goal

pub returns-in_default-clause-next : goal.returns-in_default-clause-next
returns-in_default-clause-next c = λ q at. absurd (kept_none _ _ _ _ _ q c.requires.sound.kept at (sym c.in_default.ensures.value))

pub returns-in_default-clause-sound : goal.returns-in_default-clause-sound
returns-in_default-clause-sound c = sound_later c.args.self.now.steps c.args.self.now c.requires.sound

pub returns-in_default-get_mut-clause-sound : goal.returns-in_default-get_mut-clause-sound
returns-in_default-get_mut-clause-sound c = rw (set_same c.args.self.now.kept c.args.i c.in-Some.kept.now (sym c.in-Some.ensures.value)) (sound_later c.args.self.now.steps c.args.self.now c.requires.sound)

pub returns-in_default-get_mut-clause-refused : goal.returns-in_default-get_mut-clause-refused
returns-in_default-get_mut-clause-refused c = rw (set_same c.args.self.now.kept c.args.i c.in-Some.kept.now (sym c.in-Some.ensures.value)) refl

pub need-requires-clause-few : goal.need-requires-clause-few
need-requires-clause-few c = omega (arith, few_ids c.args.self.now c.args.i c.in-Some-get_mut.client.now c.requires.sound (sym c.in-Some-get_mut.ensures.value))

pub need-requires-clause-pending : goal.need-requires-clause-pending
need-requires-clause-pending c = (one_at c.args.self.now c.args.i c.in-Some-get_mut.client.now c.in-Some.kept.now c.requires.sound (sym c.in-Some-get_mut.ensures.value) (sym c.in-Some.ensures.value)).client.few

pub need-requires-clause-names : goal.need-requires-clause-names
need-requires-clause-names c = (one_at c.args.self.now c.args.i c.in-Some-get_mut.client.now c.in-Some.kept.now c.requires.sound (sym c.in-Some-get_mut.ensures.value) (sym c.in-Some.ensures.value)).kept.names

pub need-requires-clause-few_names : goal.need-requires-clause-few_names
need-requires-clause-few_names c = (one_at c.args.self.now c.args.i c.in-Some-get_mut.client.now c.in-Some.kept.now c.requires.sound (sym c.in-Some-get_mut.ensures.value) (sym c.in-Some.ensures.value)).client.few_names

pub need-requires-clause-sound : goal.need-requires-clause-sound
need-requires-clause-sound c = line_sound c.args.self.now c.args.i c.in-Some-get_mut.client.now c.in-Some.kept.now c.requires.sound (sym c.in-Some-get_mut.ensures.value) (sym c.in-Some.ensures.value)

pub need-requires-clause-open : goal.need-requires-clause-open
need-requires-clause-open c = (one_at c.args.self.now c.args.i c.in-Some-get_mut.client.now c.in-Some.kept.now c.requires.sound (sym c.in-Some-get_mut.ensures.value) (sym c.in-Some.ensures.value)).kept.edited

pub need-requires-clause-can : goal.need-requires-clause-can
need-requires-clause-can c = λ N e. can_take c.args.self.now c.args.i c.in-Some-get_mut.client.now c.in-Some.kept.now c.requires.sound (sym c.in-Some-get_mut.ensures.value) (sym c.in-Some.ensures.value) word.Need (need (shown_of c.in-Some-get_mut.client.now c.in-Some.kept.now) (next_names c.in-Some-get_mut.client.now c.in-Some-get_mut.client.now.transaction) c.args.at.now) (need_meant c.args.self.now c.args.i c.in-Some-get_mut.client.now c.in-Some.kept.now c.requires.sound (sym c.in-Some-get_mut.ensures.value) (sym c.in-Some.ensures.value) c.args.at.now) N e

pub need-requires-clause-taken : goal.need-requires-clause-taken
need-requires-clause-taken c = keeps_ids c.args.self.now c.args.i c.in-Some-get_mut.client.now c.in-Some.kept.now c.requires.sound (sym c.in-Some-get_mut.ensures.value) (sym c.in-Some.ensures.value)

pub returns-clause-next : goal.returns-clause-next
returns-clause-next c = λ q at.
    next_done (header_view c.args.self.now.header) c.args.self.now.lists c.args.i c.in-Some-get_mut.client.now q c.need.new.client main_line (λ x D. IsAfterNeed x 0 x.transaction (need D (next_names x x.transaction) c.args.at.now)) (shown_of c.in-Some-get_mut.client.now c.in-Some.kept.now) c.in_ok-answer.answer (sym c.in-Some-get_mut.ensures.value) at (shown c.args.self.now c.args.i c.in-Some-get_mut.client.now c.in-Some.kept.now c.requires.sound (sym c.in-Some-get_mut.ensures.value) (sym c.in-Some.ensures.value)) c.in_ok-answer.ensures.answer

pub returns-clause-sound : goal.returns-clause-sound
returns-clause-sound c = sound_need c.args.self.now c.args.i c.in-Some-get_mut.client.now c.in-Some.kept.now c.requires.sound (sym c.in-Some-get_mut.ensures.value) (sym c.in-Some.ensures.value) c.need.new.client c.need.new.kept c.args.at.now c.in_ok-answer.answer c.in_ok-answer.ensures.answer c.in_ok-answer.ensures.kept

pub returns-clause-refused : goal.returns-clause-refused
returns-clause-refused c =
    world_refused c.args.self.now c.args.i c.in-Some-get_mut.client.now c.need.new.client c.in-Some.kept.now c.need.new.kept c.in_ok-answer.answer (sym c.in-Some-get_mut.ensures.value) (sym c.in-Some.ensures.value)
    (need_refused c.in-Some-get_mut.client.now c.need.new.client c.in-Some.kept.now c.need.new.kept c.in-Some-get_mut.client.now.transaction (need (shown_of c.in-Some-get_mut.client.now c.in-Some.kept.now) (next_names c.in-Some-get_mut.client.now c.in-Some-get_mut.client.now.transaction) c.args.at.now) c.in_ok-answer.answer c.in_ok-answer.ensures.answer c.in_ok-answer.ensures.kept)
