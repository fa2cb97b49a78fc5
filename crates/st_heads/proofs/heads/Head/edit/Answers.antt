use Rattle.std.proofs.Common.{refl, ap, ◌∙◌, unwrap_or}
use Rattle.st_doc.specs.Doc.{document_of}
use Rattle.st_heads.proofs.Editing.{is_open, shows, so_far, still_sound, with_part_is}
use Rattle.st_heads.proofs.heads.Head.edit.Goals as goal

pub returns-clause-part : goal.returns-clause-part
returns-clause-part c = (
  c.in_ok-with_part.field-0,
  refl,
  with_part_is
      c.args.self.now c.args.joined.now c.args.part c.in_ok-with_part.field-0 c.in_ok-doc.doc c.carry.new.self c.in_ok-carry.field-0 c.requires.line c.requires.going c.requires.part
      (c.in_ok-doc.ensures ∙ ap (λ o. document_of (unwrap_or o c.args.self.now.doc)) c.take.ensures.value) c.in_ok-carry.ensures.verdict c.in_ok-carry.ensures.after c.in_ok-carry.ensures.still_sound c.in_ok-with_part.ensures,
)

pub returns-clause-shown : goal.returns-clause-shown
returns-clause-shown c = shows
    c.args.self.now c.args.joined.now c.args.part c.in_ok-with_part.field-0 c.in_ok-doc.doc c.carry.new.self c.in_ok-carry.field-0 c.requires.line c.requires.going c.requires.part
    (c.in_ok-doc.ensures ∙ ap (λ o. document_of (unwrap_or o c.args.self.now.doc)) c.take.ensures.value) c.in_ok-carry.ensures.verdict c.in_ok-carry.ensures.after c.in_ok-carry.ensures.still_sound c.in_ok-with_part.ensures

pub returns-clause-going : goal.returns-clause-going
returns-clause-going c = record {
  has = (
    c.carry.new.self,
    refl,
    is_open
        c.args.self.now c.args.joined.now c.args.part c.in_ok-with_part.field-0 c.in_ok-doc.doc c.carry.new.self c.in_ok-carry.field-0 c.requires.line c.requires.going c.requires.part
        (c.in_ok-doc.ensures ∙ ap (λ o. document_of (unwrap_or o c.args.self.now.doc)) c.take.ensures.value) c.in_ok-carry.ensures.verdict c.in_ok-carry.ensures.after c.in_ok-carry.ensures.still_sound c.in_ok-with_part.ensures,
  );
  so_far = so_far
      c.args.self.now c.args.joined.now c.args.part c.in_ok-with_part.field-0 c.in_ok-doc.doc c.carry.new.self c.in_ok-carry.field-0 c.requires.line c.requires.going c.requires.part
      (c.in_ok-doc.ensures ∙ ap (λ o. document_of (unwrap_or o c.args.self.now.doc)) c.take.ensures.value) c.in_ok-carry.ensures.verdict c.in_ok-carry.ensures.after c.in_ok-carry.ensures.still_sound c.in_ok-with_part.ensures;
  sound = still_sound
      c.args.self.now c.args.joined.now c.args.part c.in_ok-with_part.field-0 c.in_ok-doc.doc c.carry.new.self c.in_ok-carry.field-0 c.requires.line c.requires.going c.requires.part
      (c.in_ok-doc.ensures ∙ ap (λ o. document_of (unwrap_or o c.args.self.now.doc)) c.take.ensures.value) c.in_ok-carry.ensures.verdict c.in_ok-carry.ensures.after c.in_ok-carry.ensures.still_sound c.in_ok-with_part.ensures;
}
