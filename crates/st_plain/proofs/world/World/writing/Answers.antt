use Rattle.std.proofs.Common.{ap, sym, ◌∙◌}
use Rattle.st_doc.specs.Doc.{document_of}
use Rattle.st_ids.specs.declared.names.Rev.{Rev}
use Rattle.st_script.specs.Steps.{act_view, step_view}
use Rattle.st_plain.proofs.Writings.{fits_there, is_none, sound_there, writes_there}
use Rattle.st_plain.proofs.world.World.writing.Goals as goal

pub returns-clause-is : goal.returns-clause-is
returns-clause-is c =
    writes_there c.args.self.now c.in-Some.i c.in-Some-get.client.now c.in-Some-get-2.kept.now c.requires.sound (sym c.in-Some-get.ensures) (sym c.in-Some-get-2.ensures) (document_of c.shown_doc-doc.result.now) c.shown_doc-doc.ensures
    c.in-Some-schema_of.known.now c.in-Some-schema_of.ensures (is_none c.in-Some-get.client.now.transaction (sym c.is_some.ensures ∙ c.if-is_some.false)) (step_view c.args.step.now) c.in-Edit.edit _ (sym c.in-Some.ensures) (ap act_view c.in-Edit.is)
    c.if-step-ne0.false c.if-not-client.false (ap (λ (r : Rev). record { rev = r; nodes = 0; cells = 0 }) c.next_rev.ensures)

pub returns-clause-sound : goal.returns-clause-sound
returns-clause-sound c =
    sound_there c.args.self.now c.in-Some.i c.in-Some-get.client.now c.in-Some-get-2.kept.now c.requires.sound (sym c.in-Some-get.ensures) (sym c.in-Some-get-2.ensures) (document_of c.shown_doc-doc.result.now) c.shown_doc-doc.ensures

pub returns-clause-fits : goal.returns-clause-fits
returns-clause-fits c = λ N meant.
    fits_there c.args.self.now c.in-Some.i c.in-Some-get.client.now c.in-Some-get-2.kept.now c.requires.sound (sym c.in-Some-get.ensures) (sym c.in-Some-get-2.ensures) (document_of c.shown_doc-doc.result.now) c.shown_doc-doc.ensures
    c.in-Some-schema_of.known.now c.in-Some-schema_of.ensures (is_none c.in-Some-get.client.now.transaction (sym c.is_some.ensures ∙ c.if-is_some.false)) (record { rev = c.next_rev.result; nodes = 0; cells = 0 })
    (ap (λ (r : Rev). record { rev = r; nodes = 0; cells = 0 }) c.next_rev.ensures) c.in-Edit.edit N meant
