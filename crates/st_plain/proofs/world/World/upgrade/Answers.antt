use Rattle.std.proofs.Common.{refl, sym, arith}
use Rattle.st_script.specs.Header.{header_view}
use Rattle.st_plain.proofs.Acting.{few_ids, keeps_ids, line_sound, one_at, shown, shown_of}
use Rattle.st_plain.proofs.Everyone.{kept_none}
use Rattle.st_world_laws.proofs.Everyone.{set_same}
use Rattle.st_plain.proofs.Stepping.{sound_later}
use Rattle.st_plain.proofs.Upgraded.{few_schemas, fits_main, known_is, known_there, next_upgraded, sound_upgrade, upgrade_leaves, upgraded_as}
use Rattle.st_plain.proofs.world.World.upgrade.Goals as goal

pub returns-in_default-clause-next : goal.returns-in_default-clause-next
returns-in_default-clause-next c = λ q at. absurd (kept_none _ _ _ _ _ q c.requires.sound.kept at (sym c.in_default.ensures.value))

pub returns-in_default-clause-sound : goal.returns-in_default-clause-sound
returns-in_default-clause-sound c = sound_later c.args.self.now.steps c.args.self.now c.requires.sound

pub returns-in_default-get_mut-clause-sound : goal.returns-in_default-get_mut-clause-sound
returns-in_default-get_mut-clause-sound c = rw (set_same c.args.self.now.kept c.args.i c.in-Some.kept.now (sym c.in-Some.ensures.value)) (sound_later c.args.self.now.steps c.args.self.now c.requires.sound)

pub returns-in_default-get_mut-clause-refused : goal.returns-in_default-get_mut-clause-refused
returns-in_default-get_mut-clause-refused c = rw (set_same c.args.self.now.kept c.args.i c.in-Some.kept.now (sym c.in-Some.ensures.value)) refl

pub unreachable-requires : goal.unreachable-requires
unreachable-requires c = known_there c.args.self.now c.args.i c.in-Some-get_mut.client.now c.in-Some.kept.now c.requires.sound (sym c.in-Some-get_mut.ensures.value) (sym c.in-Some.ensures.value) c.in_default-schema_of.ensures

pub upgrade-requires-clause-few : goal.upgrade-requires-clause-few
upgrade-requires-clause-few c = omega (arith, few_ids c.args.self.now c.args.i c.in-Some-get_mut.client.now c.requires.sound (sym c.in-Some-get_mut.ensures.value))

pub upgrade-requires-clause-pending : goal.upgrade-requires-clause-pending
upgrade-requires-clause-pending c = (one_at c.args.self.now c.args.i c.in-Some-get_mut.client.now c.in-Some.kept.now c.requires.sound (sym c.in-Some-get_mut.ensures.value) (sym c.in-Some.ensures.value)).client.few

pub upgrade-requires-clause-names : goal.upgrade-requires-clause-names
upgrade-requires-clause-names c = let one = one_at c.args.self.now c.args.i c.in-Some-get_mut.client.now c.in-Some.kept.now c.requires.sound (sym c.in-Some-get_mut.ensures.value) (sym c.in-Some.ensures.value) in omega (arith, one.kept.names, one.client.few_names)

pub upgrade-requires-clause-schemas : goal.upgrade-requires-clause-schemas
upgrade-requires-clause-schemas c = few_schemas c.args.self.now c.args.i c.in-Some-get_mut.client.now c.in-Some.kept.now c.requires.sound (sym c.in-Some-get_mut.ensures.value) (sym c.in-Some.ensures.value)

pub upgrade-requires-clause-sound : goal.upgrade-requires-clause-sound
upgrade-requires-clause-sound c = line_sound c.args.self.now c.args.i c.in-Some-get_mut.client.now c.in-Some.kept.now c.requires.sound (sym c.in-Some-get_mut.ensures.value) (sym c.in-Some.ensures.value)

pub upgrade-requires-clause-fits : goal.upgrade-requires-clause-fits
upgrade-requires-clause-fits c = fits_main c.args.self.now c.args.i c.in-Some-get_mut.client.now c.in-Some.kept.now c.requires.sound (sym c.in-Some-get_mut.ensures.value) (sym c.in-Some.ensures.value) c.args.schema.now

pub upgrade-requires-clause-taken : goal.upgrade-requires-clause-taken
upgrade-requires-clause-taken c = keeps_ids c.args.self.now c.args.i c.in-Some-get_mut.client.now c.in-Some.kept.now c.requires.sound (sym c.in-Some-get_mut.ensures.value) (sym c.in-Some.ensures.value)

pub returns-clause-next : goal.returns-clause-next
returns-clause-next c = λ q at.
    next_upgraded (header_view c.args.self.now.header) c.args.self.now.lists c.args.i c.in-Some-get_mut.client.now q c.upgrade.new.client (shown_of c.in-Some-get_mut.client.now c.in-Some.kept.now) c.args.schema.now c.in_ok-answer.answer (sym c.in-Some-get_mut.ensures.value) at
    (shown c.args.self.now c.args.i c.in-Some-get_mut.client.now c.in-Some.kept.now c.requires.sound (sym c.in-Some-get_mut.ensures.value) (sym c.in-Some.ensures.value)) (upgraded_as c.args.self.now c.args.i c.in-Some-get_mut.client.now c.in-Some.kept.now c.requires.sound (sym c.in-Some-get_mut.ensures.value) (sym c.in-Some.ensures.value) c.args.schema.now c.is_kept.ensures c.in-Some-schema_of.known.now.schema (known_is c.args.self.now c.args.i c.in-Some-get_mut.client.now c.in-Some.kept.now c.requires.sound (sym c.in-Some-get_mut.ensures.value) (sym c.in-Some.ensures.value) c.in-Some-schema_of.known.now c.in-Some-schema_of.ensures) c.upgrade.new.client c.upgrade.new.kept c.keep_upgrade.new.schemas c.in_ok-answer.answer c.in_ok-answer.ensures.answer c.in_ok-answer.ensures.kept c.in_ok-keep_upgrade.ensures)

pub returns-clause-sound : goal.returns-clause-sound
returns-clause-sound c = sound_upgrade c.args.self.now c.args.i c.in-Some-get_mut.client.now c.in-Some.kept.now c.requires.sound (sym c.in-Some-get_mut.ensures.value) (sym c.in-Some.ensures.value) c.args.schema.now c.is_kept.ensures c.in-Some-schema_of.known.now.schema (known_is c.args.self.now c.args.i c.in-Some-get_mut.client.now c.in-Some.kept.now c.requires.sound (sym c.in-Some-get_mut.ensures.value) (sym c.in-Some.ensures.value) c.in-Some-schema_of.known.now c.in-Some-schema_of.ensures) c.upgrade.new.client c.upgrade.new.kept c.keep_upgrade.new.schemas c.in_ok-answer.answer c.in_ok-answer.ensures.answer c.in_ok-answer.ensures.kept c.in_ok-keep_upgrade.ensures

pub returns-clause-refused : goal.returns-clause-refused
returns-clause-refused c = upgrade_leaves c.args.self.now c.args.i c.in-Some-get_mut.client.now c.in-Some.kept.now c.requires.sound (sym c.in-Some-get_mut.ensures.value) (sym c.in-Some.ensures.value) c.args.schema.now c.is_kept.ensures c.in-Some-schema_of.known.now.schema (known_is c.args.self.now c.args.i c.in-Some-get_mut.client.now c.in-Some.kept.now c.requires.sound (sym c.in-Some-get_mut.ensures.value) (sym c.in-Some.ensures.value) c.in-Some-schema_of.known.now c.in-Some-schema_of.ensures) c.upgrade.new.client c.upgrade.new.kept c.keep_upgrade.new.schemas c.in_ok-answer.answer c.in_ok-answer.ensures.answer c.in_ok-answer.ensures.kept c.in_ok-keep_upgrade.ensures
