use Rattle.st_author_over.proofs.over.author_over.Goals as goal

pub returns : goal.returns
returns c = λ l A T stands ext read normal.
    let S = c.args.bridge.now in
    let C = c.args.change.now in
    let rules = (c.normal_changes_obey.ensures C).0 normal in
    let judged = c.changes_are_judged_back.ensures l A T S C ext read rules in
    let told = c.stands_before.ensures T stands ext.after rules in
    (λ t. judged.1 (told.0 t), λ i. told.1 (judged.0 i))
