use Rattle.std.proofs.Common.{sym, ap, ◌∙◌, subst, List, map, take, take_all, arith}
use Rattle.std.proofs.lemmas.List.{map-append}
use Rattle.st_ids.specs.Listing.{Has}
use Rattle.st_marks.specs.declared.intents.Put.{Put}
use Rattle.st_doc.specs.inside.Ahead.{above_ahead, IsLeastOf}
use Rattle.st_marks.specs.Document.{Reaches}
use Rattle.st_lemmas.proofs.FirstItems.{take_one}
use Rattle.st_doc.proofs.Verdicts.{least_more}
use Rattle.st_doc.proofs.verdict.least_ring.Goals as goal

pub loop-put-preserved : goal.loop-put-preserved
loop-put-preserved c =
    let up = above_ahead c.args.intent.now c.args.targets.now c.args.place.now in
    let puts = c.as_slice-put-items.result.now in
    let i = c.loop-put.put-index in
    let put = c.put-item.result in
    let xs = map (λ (p : Put). p.node) (take i puts) in
    let more = ap (map (λ (p : Put). p.node)) (take_one puts i put put c.loop-put-test.true (sym c.put-item.is)) ∙ map-append (λ (p : Put). p.node) (take i puts) _ in
    subst (λ ys. IsLeastOf (λ n. Has ys n × Reaches up n n) c.least_with-least.result) (sym more)
    (subst (IsLeastOf (λ n. Has _ n × Reaches up n n)) (sym c.least_with-least.ensures) (least_more (λ n. Reaches up n n) xs put.node c.in_ok-counts.counts c.in_ok-counts.ensures c.loop-put.least c.loop-put.invariant))

pub returns : goal.returns
returns c =
    let up = above_ahead c.args.intent.now c.args.targets.now c.args.place.now in
    subst (λ (ps : List Put). IsLeastOf (λ n. Has (map (λ (p : Put). p.node) ps) n × Reaches up n n) c.loop-put.least) (take_all _ _ (omega arith) ∙ c.as_slice-put-items.ensures) c.loop-put.invariant
