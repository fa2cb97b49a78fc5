use Rattle.std.proofs.Common.{◌≡◌, sym, arith}
use Rattle.st_script.specs.Header.{header_view}
use Rattle.st_lists.specs.Lines.{main_line}
use Rattle.st_world.specs.World.{begin}
use Rattle.st_edits.specs.InEffect.{last_in_effect}
use Rattle.st_plain.proofs.Acting.{begun_as, begun_refused, few_ids, next_done, one_at, shown, shown_of, sound_begin}
use Rattle.st_plain.proofs.Everyone.{kept_none}
use Rattle.st_plain.proofs.Stepping.{sound_later}
use Rattle.st_plain.proofs.world.World.begin_transaction.Goals as goal

pub returns-in_default-clause-next : goal.returns-in_default-clause-next
returns-in_default-clause-next c = λ q at. absurd (kept_none _ _ _ _ _ q c.requires.sound.kept at (sym c.in_default.ensures))

pub returns-in_default-clause-sound : goal.returns-in_default-clause-sound
returns-in_default-clause-sound c = sound_later c.args.self.now.steps c.args.self.now c.requires.sound

pub begin-requires-clause-few : goal.begin-requires-clause-few
begin-requires-clause-few c = omega (arith, few_ids c.args.self.now c.args.i c.in-Some-get_mut.client.now c.requires.sound (sym c.in-Some-get_mut.ensures.value))

pub begin-requires-clause-pending : goal.begin-requires-clause-pending
begin-requires-clause-pending c = (one_at c.args.self.now c.args.i c.in-Some-get_mut.client.now c.in-Some.kept.now c.requires.sound (sym c.in-Some-get_mut.ensures.value) (sym c.in-Some.ensures)).client.few

pub returns-clause-next : goal.returns-clause-next
returns-clause-next c = λ q at.
    next_done (header_view c.args.self.now.header) c.args.self.now.lists c.args.i c.in-Some-get_mut.client.now q c.begin.new.client main_line (λ x D d b. begin x 0 (main_line x) x.transaction (last_in_effect D) ≡ (d, b)) (shown_of c.in-Some-get_mut.client.now c.in-Some.kept.now) c.begin.result (sym c.in-Some-get_mut.ensures.value) at (shown c.args.self.now c.args.i c.in-Some-get_mut.client.now c.in-Some.kept.now c.requires.sound (sym c.in-Some-get_mut.ensures.value) (sym c.in-Some.ensures))
    (begun_as c.args.self.now c.args.i c.in-Some-get_mut.client.now c.in-Some.kept.now c.requires.sound (sym c.in-Some-get_mut.ensures.value) (sym c.in-Some.ensures) c.begin.new.client c.last_in_effect-under.result c.begin.result c.last_in_effect-under.ensures c.begin.ensures)

pub returns-clause-sound : goal.returns-clause-sound
returns-clause-sound c = sound_begin c.args.self.now c.args.i c.in-Some-get_mut.client.now c.in-Some.kept.now c.requires.sound (sym c.in-Some-get_mut.ensures.value) (sym c.in-Some.ensures) c.begin.new.client c.begin.result (begun_as c.args.self.now c.args.i c.in-Some-get_mut.client.now c.in-Some.kept.now c.requires.sound (sym c.in-Some-get_mut.ensures.value) (sym c.in-Some.ensures) c.begin.new.client c.last_in_effect-under.result c.begin.result c.last_in_effect-under.ensures c.begin.ensures)

pub returns-clause-refused : goal.returns-clause-refused
returns-clause-refused c =
    begun_refused c.args.self.now c.args.i c.in-Some-get_mut.client.now c.begin.new.client c.in-Some.kept.now c.last_in_effect-under.result c.begin.result (sym c.in-Some-get_mut.ensures.value) c.begin.ensures
