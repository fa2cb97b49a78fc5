use Rattle.std.proofs.Common.{ap, refl}
use Rattle.std.specs.BTreeSet.{contains}
use Rattle.st_ids.specs.Order.{field_cmp, node_cmp}
use Rattle.st_ids.specs.declared.names.FieldId.{FieldId}
use Rattle.st_ids.proofs.Orders.{field_cmp_exact}
use Rattle.st_marks.specs.declared.marks.RegMark.{RegMark}
use Rattle.st_marks.specs.Embedding.{register_part}
use Rattle.st_marks.specs.Register.{embed_register}
use Rattle.st_doc.specs.Doc.{document_of}
use Rattle.st_embed.specs.inside.Wants.{part_in_register}
use Rattle.st_embed.proofs.Candidates.{no_register}
use Rattle.st_embed.proofs.Listing.{listing}
use Rattle.st_embed.proofs.Wanting.{register_named, register_same}
use Rattle.st_embed.proofs.listings.registers_of.Goals as goal

pub returns : goal.returns
returns c =
    let D = document_of c.args.doc.now in
    let N = c.args.intent.now in
    let w = c.args.wants.now in
    let m = contains node_cmp c.args.mentioned.now in
    let fields = c.in_ok-fields.fields in
    listing field_cmp field_cmp_exact (λ (r : RegMark). r.field) (λ (f : FieldId). embed_register f (part_in_register w m f) (D.held f)) (λ f r e. register_named f (part_in_register w m f) (D.held f) r e)
    fields.keys c.in_ok-list.list (λ (f : FieldId). embed_register f (register_part m N f) (D.held f)) c.in_ok-list.ensures.ordered c.in_ok-list.ensures.registers
    (λ q there. ap (λ p. embed_register q p (D.held q)) (register_same N w c.requires.wants m q))
    (λ q e. no_register D c.requires.sound N m c.args.mentioned.now.keys (λ k. refl) q (contains field_cmp fields q) (c.in_ok-fields.ensures q) e)
