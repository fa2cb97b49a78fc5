use Rattle.st_author_over.proofs.OverItself.{over_as}
use Rattle.st_author_over.proofs.over.is_over_by.Goals as goal

pub returns : goal.returns
returns c = λ D stands sound normal.
    let C = c.args.change.now in
    let rules = (c.normal_changes_obey.ensures C).0 normal in
    let intent = c.changes_of_intents_are_over.ensures D C sound rules in
    let told = c.stands_before.ensures D stands sound rules in
    let same = over_as c.args.step.now D C c.requires in
    (λ t. intent.1 (same.0 (told.0 t)), λ i. told.1 (same.1 (intent.0 i)))
