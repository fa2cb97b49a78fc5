use Rattle.std.proofs.Common.{arith, ◌∙◌, subst, take_all}
use Rattle.st_ids.specs.Listing.{Has}
use Rattle.st_doc.specs.inside.Ahead.{IsLeastOf}
use Rattle.st_void.specs.Standing.{IsShownLive}
use Rattle.st_void.proofs.GatheredLists.{needs_step}
use Rattle.st_void.proofs.verdicts.least_unmet.Goals as goal

pub needs-preserved : goal.needs-preserved
needs-preserved c = needs_step c.args.change.now c.as_slice-node-items.result.now c.needs.node-index _ c.is_shown_live.result c.needs.least c.least_with-least.result c.needs-test.true c.is_shown_live.ensures c.least_with-least.ensures c.needs.invariant

pub returns : goal.returns
returns c = subst (λ ns. IsLeastOf (λ n. Has ns n × (IsShownLive c.args.change.now n → ⊥)) c.needs.least) (take_all _ _ (omega arith) ∙ c.as_slice-node-items.ensures) c.needs.invariant
