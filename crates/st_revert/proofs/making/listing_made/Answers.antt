use Rattle.std.proofs.Common.{◌≡◌, ap, ◌∙◌}
use Rattle.std.specs.BTreeSet.{contains}
use Rattle.st_ids.specs.Order.{node_cmp}
use Rattle.st_ids.specs.declared.names.NodeId.{NodeId}
use Rattle.st_lemmas.proofs.Options.{IfOk-along}
use Rattle.st_marks.specs.declared.steps.Step.{Step}
use Rattle.st_marks.specs.Back.{retreat}
use Rattle.st_marks.specs.Embedding.{is_among}
use Rattle.st_marks.specs.Listings.{nodes_new}
use Rattle.st_trim.specs.Trimmed.{ListsStep}
use Rattle.st_steps.proofs.NodesFound.{new_exactly}
use Rattle.st_revert.specs.inside.Made.{ToldMade}
use Rattle.st_revert.proofs.MadeListed.{lists_made}
use Rattle.st_revert.proofs.making.listing_made.Goals as goal

pub returns : goal.returns
returns c = λ D E x s.
    let S = c.args.step.now in
    let new = contains node_cmp c.in_ok-new.new in
    let names : (n : NodeId) → new n ≡ is_among (nodes_new S.new) n = λ n. c.in_ok-new.ensures n ∙ ap (λ l. is_among (nodes_new l) n) c.as_slice.ensures in
    IfOk-along c.told_made.result (λ (g : Step). ToldMade S g new) (λ (g : Step). ListsStep D (retreat D E) s.mentioned g)
    (λ g told. lists_made D E S x s new (λ n. names n ∙ new_exactly D E S x s n) g told) c.told_made.ensures
