use Rattle.std.proofs.Common.{refl, sym, arith}
use Rattle.std.specs.List.{slice_set}
use Rattle.st_edits.specs.Resolve.{resolve}
use Rattle.st_script.specs.Header.{header_view}
use Rattle.st_lists.specs.Lines.{main_line}
use Rattle.st_script.specs.Steps.{edit_view}
use Rattle.st_world.specs.Edits.{edit_of}
use Rattle.st_world.specs.World.{IsAfterEdit, next_names, word_of}
use Rattle.st_plain.proofs.Choosing.{next_edit, within_edit}
use Rattle.st_plain.proofs.Acting.{edit_refused, few_ids, keeps_ids, line_sound, next_done, numbers, one_at, shown, shown_of, sound_edit, world_refused}
use Rattle.st_plain.proofs.KnownEdits.{done_known, kept_known, main_some, take_known}
use Rattle.st_edits.specs.InEffect.{schema_in_effect}
use Rattle.st_doc.specs.Doc.{document_of}
use Rattle.st_plain.proofs.Everyone.{kept_none}
use Rattle.st_world_laws.proofs.Everyone.{set_same}
use Rattle.st_plain.proofs.Stepping.{sound_later}
use Rattle.st_plain.proofs.world.World.edit.Goals as goal

pub returns-in_default-clause-next : goal.returns-in_default-clause-next
returns-in_default-clause-next c = λ q at. absurd (kept_none _ _ _ _ _ q c.requires.sound.kept at (sym c.in_default.ensures.value))

pub returns-in_default-clause-sound : goal.returns-in_default-clause-sound
returns-in_default-clause-sound c = sound_later c.args.self.now.steps c.args.self.now c.requires.sound

pub returns-in_default-get_mut-clause-sound : goal.returns-in_default-get_mut-clause-sound
returns-in_default-get_mut-clause-sound c = rw (set_same c.args.self.now.kept c.args.i c.in-Some.kept.now (sym c.in-Some.ensures.value)) (sound_later c.args.self.now.steps c.args.self.now c.requires.sound)

pub returns-in_default-get_mut-clause-refused : goal.returns-in_default-get_mut-clause-refused
returns-in_default-get_mut-clause-refused c = rw (set_same c.args.self.now.kept c.args.i c.in-Some.kept.now (sym c.in-Some.ensures.value)) refl

pub edit-requires-clause-within : goal.edit-requires-clause-within
edit-requires-clause-within c = within_edit c.args.edit.now c.requires.within

pub edit-requires-clause-few : goal.edit-requires-clause-few
edit-requires-clause-few c = omega (arith, few_ids c.args.self.now c.args.i c.in-Some-get_mut.client.now c.requires.sound (sym c.in-Some-get_mut.ensures.value))

pub edit-requires-clause-pending : goal.edit-requires-clause-pending
edit-requires-clause-pending c = (one_at c.args.self.now c.args.i c.in-Some-get_mut.client.now c.in-Some.kept.now c.requires.sound (sym c.in-Some-get_mut.ensures.value) (sym c.in-Some.ensures.value)).client.few

pub edit-requires-clause-names : goal.edit-requires-clause-names
edit-requires-clause-names c = (one_at c.args.self.now c.args.i c.in-Some-get_mut.client.now c.in-Some.kept.now c.requires.sound (sym c.in-Some-get_mut.ensures.value) (sym c.in-Some.ensures.value)).kept.names

pub edit-requires-clause-few_names : goal.edit-requires-clause-few_names
edit-requires-clause-few_names c = (one_at c.args.self.now c.args.i c.in-Some-get_mut.client.now c.in-Some.kept.now c.requires.sound (sym c.in-Some-get_mut.ensures.value) (sym c.in-Some.ensures.value)).client.few_names

pub edit-requires-clause-sound : goal.edit-requires-clause-sound
edit-requires-clause-sound c = line_sound c.args.self.now c.args.i c.in-Some-get_mut.client.now c.in-Some.kept.now c.requires.sound (sym c.in-Some-get_mut.ensures.value) (sym c.in-Some.ensures.value)

pub edit-requires-clause-open : goal.edit-requires-clause-open
edit-requires-clause-open c = (one_at c.args.self.now c.args.i c.in-Some-get_mut.client.now c.in-Some.kept.now c.requires.sound (sym c.in-Some-get_mut.ensures.value) (sym c.in-Some.ensures.value)).kept.edited

pub edit-requires-clause-given : goal.edit-requires-clause-given
edit-requires-clause-given c = numbers c.args.self.now c.args.i c.in-Some-get_mut.client.now c.in-Some.kept.now c.requires.sound (sym c.in-Some-get_mut.ensures.value) (sym c.in-Some.ensures.value)

pub edit-requires-clause-can : goal.edit-requires-clause-can
edit-requires-clause-can c = take_known c.args.self.now c.args.i c.in-Some-get_mut.client.now c.in-Some.kept.now c.requires.sound (sym c.in-Some-get_mut.ensures.value) (sym c.in-Some.ensures.value) (document_of c.shown_doc.result.now) c.shown_doc.ensures c.in-Some-schema_of.known.now c.in-Some-schema_of.ensures c.args.edit.now

pub edit-requires-clause-taken : goal.edit-requires-clause-taken
edit-requires-clause-taken c = keeps_ids c.args.self.now c.args.i c.in-Some-get_mut.client.now c.in-Some.kept.now c.requires.sound (sym c.in-Some-get_mut.ensures.value) (sym c.in-Some.ensures.value)

pub returns-clause-next : goal.returns-clause-next
returns-clause-next c = λ q at.
    next_edit (header_view c.args.self.now.header) c.args.self.now.lists c.args.i q 0 (main_line q) (record c.args.self.now.lists { clients = slice_set c.args.self.now.lists.clients c.args.i c.edit.new.client }) c.in_ok-answer.answer c.args.edit.now
    (next_done (header_view c.args.self.now.header) c.args.self.now.lists c.args.i c.in-Some-get_mut.client.now q c.edit.new.client main_line (λ x D. IsAfterEdit x 0 (main_line x) x.transaction (word_of (edit_view c.args.edit.now)) (resolve D (schema_in_effect D) (next_names x x.transaction) (edit_of c.args.edit.now))) (shown_of c.in-Some-get_mut.client.now c.in-Some.kept.now) c.in_ok-answer.answer (sym c.in-Some-get_mut.ensures.value) at
    (shown c.args.self.now c.args.i c.in-Some-get_mut.client.now c.in-Some.kept.now c.requires.sound (sym c.in-Some-get_mut.ensures.value) (sym c.in-Some.ensures.value))
    (done_known c.args.self.now c.args.i c.in-Some-get_mut.client.now c.in-Some.kept.now c.requires.sound (sym c.in-Some-get_mut.ensures.value) (sym c.in-Some.ensures.value) (document_of c.shown_doc.result.now) c.shown_doc.ensures c.in-Some-schema_of.known.now c.in-Some-schema_of.ensures c.args.edit.now c.edit.new.client c.in_ok-answer.answer c.in_ok-answer.ensures.answer))

pub returns-clause-sound : goal.returns-clause-sound
returns-clause-sound c = sound_edit c.args.self.now c.args.i c.in-Some-get_mut.client.now c.in-Some.kept.now c.requires.sound (sym c.in-Some-get_mut.ensures.value) (sym c.in-Some.ensures.value) c.edit.new.client c.edit.new.kept c.args.edit.now c.in_ok-answer.answer
    (done_known c.args.self.now c.args.i c.in-Some-get_mut.client.now c.in-Some.kept.now c.requires.sound (sym c.in-Some-get_mut.ensures.value) (sym c.in-Some.ensures.value) (document_of c.shown_doc.result.now) c.shown_doc.ensures c.in-Some-schema_of.known.now c.in-Some-schema_of.ensures c.args.edit.now c.edit.new.client c.in_ok-answer.answer c.in_ok-answer.ensures.answer)
    (kept_known c.args.self.now c.args.i c.in-Some-get_mut.client.now c.in-Some.kept.now c.requires.sound (sym c.in-Some-get_mut.ensures.value) (sym c.in-Some.ensures.value) (document_of c.shown_doc.result.now) c.shown_doc.ensures c.in-Some-schema_of.known.now c.in-Some-schema_of.ensures c.args.edit.now c.edit.new.client c.edit.new.kept c.in_ok-answer.ensures.kept)

pub returns-clause-refused : goal.returns-clause-refused
returns-clause-refused c =
    world_refused c.args.self.now c.args.i c.in-Some-get_mut.client.now c.edit.new.client c.in-Some.kept.now c.edit.new.kept c.in_ok-answer.answer (sym c.in-Some-get_mut.ensures.value) (sym c.in-Some.ensures.value)
    (edit_refused c.in-Some-get_mut.client.now c.edit.new.client c.in-Some.kept.now c.edit.new.kept c.in-Some-get_mut.client.now.transaction (word_of (edit_view c.args.edit.now)) (resolve (shown_of c.in-Some-get_mut.client.now c.in-Some.kept.now) c.in-Some-schema_of.known.now.schema (next_names c.in-Some-get_mut.client.now c.in-Some-get_mut.client.now.transaction) (edit_of c.args.edit.now)) c.in_ok-answer.answer c.in_ok-answer.ensures.answer c.in_ok-answer.ensures.kept)

pub unreachable-requires : goal.unreachable-requires
unreachable-requires c = main_some c.args.self.now c.args.i c.in-Some-get_mut.client.now c.in-Some.kept.now c.requires.sound (sym c.in-Some-get_mut.ensures.value) (sym c.in-Some.ensures.value) (document_of c.shown_doc.result.now) c.shown_doc.ensures c.in_default-schema_of.ensures
