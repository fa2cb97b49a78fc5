use Rattle.st_author_over.proofs.OffForests.{found_is_over, over_is_found}
use Rattle.st_author_over.proofs.OverItself.{new_before}
use Rattle.st_author_over.proofs.over.author_over_with_new_cells.Goals as goal

pub returns : goal.returns
returns c = λ l A T stands ext read normal new.
    let F = c.args.forest.now in
    let S = c.args.bridge.now in
    let C = c.args.change.now in
    let judged = c.changes_are_judged_back.ensures l A T S C ext read ((c.normal_changes_obey.ensures C).0 normal) in
    (λ t. judged.1 (found_is_over F T stands S C (new_before S T C new) (c.finds_all.ensures.0 t)), λ i. c.finds_all.ensures.1 (over_is_found F T stands S C (judged.0 i)))
