use Rattle.std.proofs.Common.{◌≡◌, true, ap, sym, ◌∙◌, subst, length, ◌<◌, ◌≤◌}
use Rattle.std.specs.List.Sorted.{IsBinarySearchResult}
use Rattle.std.specs.Prelude.{MatchResult, Err, is_ok}
use Rattle.st_ids.specs.Order.{node_cmp}
use Rattle.st_marks.specs.Embedding.{is_among}
use Rattle.st_rows.proofs.RisingNodes.{with_itself, with_another}
use Rattle.st_rows.proofs.NodeSearch.{found_or_not}
use Rattle.st_effect.proofs.names.add.Goals as goal

pub returns-in-Ok : goal.returns-in-Ok
returns-in-Ok c h =
    let found : is_among c.args.nodes.now c.args.node ≡ true =
    sym (found_or_not c.args.nodes.now c.args.node c.binary_search.result h (subst (λ l. MatchResult c.binary_search.result (λ i. i < length l) (λ i. i ≤ length l)) c.as_slice.ensures c.binary_search.ensures.bound)
    (subst (λ l. IsBinarySearchResult (λ y. node_cmp y c.args.node) l c.binary_search.result) c.as_slice.ensures c.binary_search.ensures.position))
    ∙ ap is_ok c.in-Ok.is in
    (h, λ n. with_itself c.args.nodes.now c.args.node n found)

pub returns-in_ok-insert-in-Err : goal.returns-in_ok-insert-in-Err
returns-in_ok-insert-in-Err c h =
    rw c.in_ok-insert-in-Err.ensures.ok (with_another c.args.nodes.now c.args.node c.in-Err.place h (subst (λ l. c.in-Err.place ≤ length l) c.as_slice.ensures c.in-Err.ensures.bound)
    (subst (λ l. IsBinarySearchResult (λ y. node_cmp y c.args.node) l (Err c.in-Err.place)) c.as_slice.ensures c.in-Err.ensures.position))
