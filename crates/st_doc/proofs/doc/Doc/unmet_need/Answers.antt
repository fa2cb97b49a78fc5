use Rattle.std.proofs.Common.{refl, sym, ◌∙◌, subst, List, take, take_all, arith}
use Rattle.st_ids.specs.Listing.{Has}
use Rattle.st_ids.specs.declared.names.NodeId.{NodeId}
use Rattle.st_marks.specs.Document.{IsLive}
use Rattle.st_ids.specs.Root.{root}
use Rattle.st_doc.specs.inside.Ahead.{IsLeastOf}
use Rattle.st_doc.specs.Doc.{document_of}
use Rattle.st_lemmas.proofs.FirstItems.{take_one}
use Rattle.st_doc.proofs.Verdicts.{least_more, not_tells}
use Rattle.st_doc.proofs.doc.Doc.unmet_need.Goals as goal

pub loop-node-preserved : goal.loop-node-preserved
loop-node-preserved c =
    let D = document_of c.args.self.now in
    let nodes = c.as_slice-node-items.result.now in
    let i = c.loop-node.node-index in
    let more = take_one nodes i root _ c.loop-node-test.true refl in
    subst (λ ys. IsLeastOf (λ n. Has ys n × (IsLive D n → ⊥)) c.least_with-least.result) (sym more)
    (subst (IsLeastOf (λ n. Has _ n × (IsLive D n → ⊥))) (sym c.least_with-least.ensures) (least_more (λ n. IsLive D n → ⊥) (take i nodes) _ _ (not_tells c.in_ok-live.live _ c.in_ok-live.ensures) c.loop-node.least c.loop-node.invariant))

pub returns : goal.returns
returns c =
    let D = document_of c.args.self.now in
    subst (λ (ys : List NodeId). IsLeastOf (λ n. Has ys n × (IsLive D n → ⊥)) c.loop-node.least) (take_all _ _ (omega arith) ∙ c.as_slice-node-items.ensures) c.loop-node.invariant
