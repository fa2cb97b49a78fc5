use Rattle.std.proofs.Common.{◌≡◌, ◌∙◌, ap, refl, sym, arith}
use Rattle.st_plain.proofs.Acting.{few_ids, one_at}
use Rattle.st_doc.specs.Doc.{document_of}
use Rattle.st_lists.specs.declared.lists.Client.{Client}
use Rattle.st_heads.specs.Replicas.{head_of}
use Rattle.st_plain.proofs.BranchActs.{can_edit}
use Rattle.st_plain.proofs.BranchShown.{head_some, known_there, same_some}
use Rattle.st_plain.proofs.KnownEdits.{take_known_on, there_known}
use Rattle.st_plain.proofs.BranchNext.{edit_next, edit_sound_on, edit_stays_on}
use Rattle.st_plain.proofs.Choosing.{within_edit}
use Rattle.st_plain.proofs.Everyone.{kept_none}
use Rattle.st_world_laws.proofs.Everyone.{set_same}
use Rattle.st_plain.proofs.Stepping.{sound_later}
use Rattle.st_plain.proofs.world.World.edit_branch.Goals as goal

pub returns-in_default-clause-next : goal.returns-in_default-clause-next
returns-in_default-clause-next c = λ q l at line. absurd (kept_none _ _ _ _ _ q c.requires.sound.kept at (sym c.in_default.ensures.value))

pub returns-in_default-clause-sound : goal.returns-in_default-clause-sound
returns-in_default-clause-sound c = sound_later c.args.self.now.steps c.args.self.now c.requires.sound

pub returns-in_default-get_mut-clause-sound : goal.returns-in_default-get_mut-clause-sound
returns-in_default-get_mut-clause-sound c = rw (set_same c.args.self.now.kept c.args.i c.in-Some.kept.now (sym c.in-Some.ensures.value)) (sound_later c.args.self.now.steps c.args.self.now c.requires.sound)

pub returns-in_default-get_mut-clause-refused : goal.returns-in_default-get_mut-clause-refused
returns-in_default-get_mut-clause-refused c = rw (set_same c.args.self.now.kept c.args.i c.in-Some.kept.now (sym c.in-Some.ensures.value)) refl

pub edit-requires-clause-few : goal.edit-requires-clause-few
edit-requires-clause-few c = omega (arith, c.requires.few, few_ids c.args.self.now c.args.i c.in-Some-get_mut.client.now c.requires.sound (sym c.in-Some-get_mut.ensures.value))

pub edit-requires-clause-within : goal.edit-requires-clause-within
edit-requires-clause-within c = within_edit c.args.edit.now c.requires.within

pub edit-requires-clause-names : goal.edit-requires-clause-names
edit-requires-clause-names c = let one = one_at c.args.self.now c.args.i c.in-Some-get_mut.client.now c.in-Some.kept.now c.requires.sound (sym c.in-Some-get_mut.ensures.value) (sym c.in-Some.ensures.value) in omega (arith, one.kept.names, one.client.few_names)

pub edit-requires-clause-can : goal.edit-requires-clause-can
edit-requires-clause-can c = λ j b g x. can_edit c.args.self.now c.args.i c.in-Some-get_mut.client.now c.in-Some.kept.now c.requires.sound (sym c.in-Some-get_mut.ensures.value) (sym c.in-Some.ensures.value) c.args.number c.requires.other j b g x

pub edit-requires-clause-take : goal.edit-requires-clause-take
edit-requires-clause-take c = take_known_on c.args.self.now c.args.i c.in-Some-get_mut.client.now c.in-Some.kept.now c.requires.sound (sym c.in-Some-get_mut.ensures.value) (sym c.in-Some.ensures.value) c.args.number c.requires.other c.in-Some-head_of.head.now (sym c.in-Some-head_of.ensures) (document_of c.shown_doc.result.now) c.shown_doc.ensures c.in-Some-schema_of.known.now c.in-Some-schema_of.ensures c.args.edit.now

pub returns-clause-next : goal.returns-clause-next
returns-clause-next c = edit_next c.args.self.now c.args.i c.in-Some-get_mut.client.now c.in-Some.kept.now c.requires.sound (sym c.in-Some-get_mut.ensures.value) (sym c.in-Some.ensures.value) c.args.number c.requires.other c.args.edit.now c.edit.new.client c.edit.new.kept c.in_ok-answer.answer (there_known c.args.self.now c.args.i c.in-Some-get_mut.client.now c.in-Some.kept.now c.requires.sound (sym c.in-Some-get_mut.ensures.value) (sym c.in-Some.ensures.value) c.args.number c.requires.other c.in-Some-head_of.head.now (sym c.in-Some-head_of.ensures) (document_of c.shown_doc.result.now) c.shown_doc.ensures c.in-Some-schema_of.known.now c.in-Some-schema_of.ensures c.args.edit.now c.edit.new.client c.edit.new.kept c.in_ok-answer.answer c.in_ok-answer.ensures.there) c.in_ok-answer.ensures.absent

pub returns-clause-sound : goal.returns-clause-sound
returns-clause-sound c = edit_sound_on c.args.self.now c.args.i c.in-Some-get_mut.client.now c.in-Some.kept.now c.requires.sound (sym c.in-Some-get_mut.ensures.value) (sym c.in-Some.ensures.value) c.args.number c.requires.other c.args.edit.now c.edit.new.client c.edit.new.kept c.in_ok-answer.answer (there_known c.args.self.now c.args.i c.in-Some-get_mut.client.now c.in-Some.kept.now c.requires.sound (sym c.in-Some-get_mut.ensures.value) (sym c.in-Some.ensures.value) c.args.number c.requires.other c.in-Some-head_of.head.now (sym c.in-Some-head_of.ensures) (document_of c.shown_doc.result.now) c.shown_doc.ensures c.in-Some-schema_of.known.now c.in-Some-schema_of.ensures c.args.edit.now c.edit.new.client c.edit.new.kept c.in_ok-answer.answer c.in_ok-answer.ensures.there) c.in_ok-answer.ensures.absent

pub returns-clause-refused : goal.returns-clause-refused
returns-clause-refused c = edit_stays_on c.args.self.now c.args.i c.in-Some-get_mut.client.now c.in-Some.kept.now c.requires.sound (sym c.in-Some-get_mut.ensures.value) (sym c.in-Some.ensures.value) c.args.number c.requires.other c.args.edit.now c.edit.new.client c.edit.new.kept c.in_ok-answer.answer (there_known c.args.self.now c.args.i c.in-Some-get_mut.client.now c.in-Some.kept.now c.requires.sound (sym c.in-Some-get_mut.ensures.value) (sym c.in-Some.ensures.value) c.args.number c.requires.other c.in-Some-head_of.head.now (sym c.in-Some-head_of.ensures) (document_of c.shown_doc.result.now) c.shown_doc.ensures c.in-Some-schema_of.known.now c.in-Some-schema_of.ensures c.args.edit.now c.edit.new.client c.edit.new.kept c.in_ok-answer.answer c.in_ok-answer.ensures.there) c.in_ok-answer.ensures.absent

pub returns-in_default-head_of-clause-next : goal.returns-in_default-head_of-clause-next
returns-in_default-head_of-clause-next c = λ q l at line.
    let k = c.in-Some.kept.now in
    let same : c.in-Some-get_mut.client.now ≡ q = same_some c.in-Some-get_mut.client.now q (c.in-Some-get_mut.ensures.value ∙ at) in
    absurd (head_some c.args.self.now c.args.i q k c.requires.sound at (sym c.in-Some.ensures.value) c.args.number l line (ap (λ (x : Client). head_of x k c.args.number) (sym same) ∙ sym c.in_default-head_of.ensures))

pub returns-in_default-head_of-clause-sound : goal.returns-in_default-head_of-clause-sound
returns-in_default-head_of-clause-sound c = rw (set_same c.args.self.now.kept c.args.i c.in-Some.kept.now (sym c.in-Some.ensures.value), set_same c.args.self.now.lists.clients c.args.i c.in-Some-get_mut.client.now (sym c.in-Some-get_mut.ensures.value)) (sound_later c.args.self.now.steps c.args.self.now c.requires.sound)

pub returns-in_default-head_of-clause-refused : goal.returns-in_default-head_of-clause-refused
returns-in_default-head_of-clause-refused c = rw (set_same c.args.self.now.kept c.args.i c.in-Some.kept.now (sym c.in-Some.ensures.value), set_same c.args.self.now.lists.clients c.args.i c.in-Some-get_mut.client.now (sym c.in-Some-get_mut.ensures.value)) refl

pub unreachable-requires : goal.unreachable-requires
unreachable-requires c = known_there c.args.self.now c.args.i c.in-Some-get_mut.client.now c.in-Some.kept.now c.args.number c.in-Some-head_of.head.now (document_of c.shown_doc.result.now) c.requires.sound (sym c.in-Some-get_mut.ensures.value) (sym c.in-Some.ensures.value) (sym c.in-Some-head_of.ensures) c.shown_doc.ensures c.in_default-schema_of.ensures
