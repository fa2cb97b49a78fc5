use Rattle.std.proofs.Common.{◌∙◌, subst, length, ◌<◌, ◌≤◌}
use Rattle.std.specs.List.Sorted.{IsBinarySearchResult}
use Rattle.std.specs.Prelude.{MatchResult}
use Rattle.st_ids.specs.Order.{node_cmp}
use Rattle.st_rows.proofs.NodeSearch.{found_or_not}
use Rattle.st_rows.proofs.node_set.is_among.Goals as goal

pub returns : goal.returns
returns c = λ h. c.is_ok.ensures.value ∙ found_or_not c.args.nodes.now c.args.node c.binary_search.result h
    (subst (λ l. MatchResult c.binary_search.result (λ i. i < length l) (λ i. i ≤ length l)) c.as_slice.ensures c.binary_search.ensures.bound)
    (subst (λ l. IsBinarySearchResult (λ y. node_cmp y c.args.node) l c.binary_search.result) c.as_slice.ensures c.binary_search.ensures.position)
