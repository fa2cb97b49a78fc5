use Rattle.st_author_over.proofs.OffForests.{found_is_over, over_is_found}
use Rattle.st_author_over.proofs.OverItself.{new_before, over_as}
use Rattle.st_author_over.proofs.over.is_over_with_new_cells_by.Goals as goal

pub returns : goal.returns
returns c = λ D stands sound normal new.
    let F = c.args.forest.now in
    let S = c.args.step.now in
    let C = c.args.change.now in
    let intent = c.changes_of_intents_are_over.ensures D C sound ((c.normal_changes_obey.ensures C).0 normal) in
    let same = over_as S D C c.requires in
    (λ t. intent.1 (same.0 (found_is_over F D stands S C (new_before S D C new) (c.finds_all.ensures.0 t))), λ i. c.finds_all.ensures.1 (over_is_found F D stands S C (same.1 (intent.0 i))))
