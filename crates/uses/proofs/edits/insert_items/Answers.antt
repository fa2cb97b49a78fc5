use Rattle.std.proofs.Common.{sym, ◌∙◌, subst}
use Rattle.st_ids.specs.Root.{root}
use Rattle.st_tree.specs.Node.{trees_view}
use Rattle.st_schema.specs.TreeText.{trees_data}
use Rattle.st_marks.specs.Document.{Document}
use Rattle.st_marks.specs.LiveTree.{Shows}
use Rattle.st_marks.specs.declared.verdicts.Verdict.{Verdict}
use Rattle.st_doc.specs.Doc.{document_of}
use Rattle.st_schema_laws.specs.Edited.{at_path, data_items, with_items}
use Rattle.uses.proofs.edits.insert_items.Goals as goal

pub carry-requires-clause-fits : goal.carry-requires-clause-fits
carry-requires-clause-fits c =
    let a = c.args in
    let r = c.requires in
    c.new_trees_fit.ensures.insert (document_of a.doc.now) a.schema.now a.given a.at.now a.key.now a.index (trees_view a.items.now) c.in_ok-intent.intent
    r.sound r.fresh.nodes r.fresh.cells c.in_ok-intent.ensures.ok

pub returns-clause-verdict : goal.returns-clause-verdict
returns-clause-verdict c =
    let a = c.args in
    let r = c.requires in
    let sound = c.insertion_is_seen.ensures.verdict (document_of a.doc.now) a.schema.now a.given a.at.now a.key.now a.index (trees_view a.items.now) c.in_ok-intent.intent
    r.sound r.fresh.nodes r.fresh.cells c.in_ok-intent.ensures.ok in
    c.one_verdict.ensures.verdict (document_of a.doc.now) c.in_ok-intent.intent c.in_ok-verdict.verdict Verdict.Sound c.in_ok-verdict.ensures.verdict sound

pub returns-clause-shown : goal.returns-clause-shown
returns-clause-shown c is_array d tells shows =
    let a = c.args in
    let r = c.requires in
    let D = document_of a.doc.now in
    let N = c.in_ok-intent.intent in
    let sound = c.insertion_is_seen.ensures.verdict D a.schema.now a.given a.at.now a.key.now a.index (trees_view a.items.now) N
    r.sound r.fresh.nodes r.fresh.cells c.in_ok-intent.ensures.ok in
    let whole = c.in_ok-verdict.ensures.after ∙ c.one_verdict.ensures.carried D N c.in_ok-verdict.verdict Verdict.Sound c.in_ok-verdict.ensures.verdict sound in
    let seen = c.insertion_is_seen.ensures.tree is_array D a.schema.now a.given a.at.now a.key.now a.index (trees_view a.items.now) N d
    r.sound c.is_kept.ensures tells r.fresh.nodes r.fresh.cells c.in_ok-intent.ensures.ok shows in
    subst (λ (E : Document). Shows is_array E root (at_path a.at.now (with_items a.index (data_items (trees_data (trees_view a.items.now)))) d)) (sym whole) seen
