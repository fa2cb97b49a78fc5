use Rattle.std.proofs.Common.{◌≡◌, ◌+◌, Bool, true, false, cond, not, drop, get_or, Some, refl, sym, ap, ◌∙◌, rules}
use Rattle.std.specs.List.{position_from}
use Rattle.st_ids.specs.declared.names.NodeId.{NodeId}
use Rattle.st_ids.specs.Root.{root}
use Rattle.st_doc.specs.Doc.{document_of}
use Rattle.st_doc.proofs.Look.{drop_one}
use Rattle.st_edits.specs.Resolve.{none_refused, has_type}
use Rattle.st_resolve.proofs.rules.nodes_allowed.Goals as goal

pub returns-then-not-has_type : goal.returns-then-not-has_type
returns-then-not-has_type c =
    let p : NodeId → Bool = λ n. not (has_type (document_of c.args.doc.now) c.args.rule.now.types n) in
    let ns = c.args.nodes.now in
    let i = c.loop-i.i in
    let n = get_or ns i root in
    let refused : p n ≡ true = search (rules, c.has_type.ensures, c.if-not-has_type.true, c.as_slice.ensures) in
    sym (ap none_refused (ap (position_from p i) (drop_one ns i root n c.loop-i-test.true refl) ∙ ap (λ b. cond b (Some i) (position_from p (i + 1) (drop (i + 1) ns))) refused)) ∙ c.loop-i.invariant

pub loop-i-preserved : goal.loop-i-preserved
loop-i-preserved c =
    let p : NodeId → Bool = λ n. not (has_type (document_of c.args.doc.now) c.args.rule.now.types n) in
    let ns = c.args.nodes.now in
    let i = c.loop-i.i in
    let n = get_or ns i root in
    let allowed : p n ≡ false = search (rules, c.has_type.ensures, c.if-not-has_type.false, c.as_slice.ensures) in
    sym (ap none_refused (ap (position_from p i) (drop_one ns i root n c.loop-i-test.true refl) ∙ ap (λ b. cond b (Some i) (position_from p (i + 1) (drop (i + 1) ns))) allowed)) ∙ c.loop-i.invariant
