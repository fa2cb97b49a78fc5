use Rattle.std.proofs.Common.{ap, sym, ◌∙◌, ◌≡◌}
use Rattle.st_doc.specs.Doc.{document_of}
use Rattle.st_lists.specs.declared.lists.Client.{Client}
use Rattle.st_heads.specs.Replicas.{head_of}
use Rattle.st_plain.proofs.BranchShown.{head_some, known_there, next_shown, same_some, shown_doc_sound}
use Rattle.st_plain.proofs.Everyone.{kept_none}
use Rattle.st_plain.proofs.world.World.show.Goals as goal

pub returns-in_default : goal.returns-in_default
returns-in_default c = λ q l at line. absurd (kept_none _ _ _ _ _ q c.requires.kept at (sym c.in_default.ensures))

pub returns-in_default-head_of : goal.returns-in_default-head_of
returns-in_default-head_of c = λ q l at line.
    let w = c.args.self.now in
    let k = c.in-Some.kept.now in
    let same : c.in-Some-get.client.now ≡ q = same_some c.in-Some-get.client.now q (c.in-Some-get.ensures ∙ at) in
    absurd (head_some w c.args.i q k c.requires at (sym c.in-Some.ensures) c.args.number l line (ap (λ (x : Client). head_of x k c.args.number) (sym same) ∙ sym c.in_default-head_of.ensures))

pub whole-requires : goal.whole-requires
whole-requires c =
    shown_doc_sound c.args.self.now c.args.i c.in-Some-get.client.now c.in-Some.kept.now c.args.number c.in-Some-head_of.head.now (document_of c.shown_doc-doc.result.now) c.requires (sym c.in-Some-get.ensures) (sym c.in-Some.ensures) (sym c.in-Some-head_of.ensures)
    c.shown_doc-doc.ensures

pub returns : goal.returns
returns c = λ q l at line.
    let w = c.args.self.now in
    let k = c.in-Some.kept.now in
    let same : c.in-Some-get.client.now ≡ q = same_some c.in-Some-get.client.now q (c.in-Some-get.ensures ∙ at) in
    let text = rw c.as_slice.ensures at c.in_ok-tree.ensures in
    next_shown w c.args.i q k c.requires at (sym c.in-Some.ensures) c.args.number l c.in-Some-head_of.head.now line (ap (λ (x : Client). head_of x k c.args.number) (sym same) ∙ sym c.in-Some-head_of.ensures) (document_of c.shown_doc-doc.result.now)
    c.in_ok-tree.tree c.shown_doc-doc.ensures c.in-Some-schema_of.known.now c.in-Some-schema_of.ensures text

pub unreachable-requires : goal.unreachable-requires
unreachable-requires c =
    known_there c.args.self.now c.args.i c.in-Some-get.client.now c.in-Some.kept.now c.args.number c.in-Some-head_of.head.now (document_of c.shown_doc-doc.result.now) c.requires (sym c.in-Some-get.ensures) (sym c.in-Some.ensures) (sym c.in-Some-head_of.ensures)
    c.shown_doc-doc.ensures c.in_default-schema_of.ensures
