use Rattle.std.proofs.Common.{ap, rules, sym, ◌∙◌}
use Rattle.std.proofs.lemmas.List.Sorted.{answers_always}
use Rattle.std.specs.Prelude.{is_ok}
use Rattle.st_marks.specs.declared.changes.NewNode.{NewNode}
use Rattle.st_agree.proofs.NamedNodes.{made_or_not}
use Rattle.st_agree.proofs.names.is_made.Goals as goal

pub returns-in-Ok : goal.returns-in-Ok
returns-in-Ok c =
    let facts = c.binary_search_by_key.ensures in
    let position = facts.position (λ (m : NewNode). m.node) (answers_always _ _ _ (λ f a r g called. search rules)) in
    sym (ap is_ok c.in-Ok.is) ∙ made_or_not c.args.new.now c.args.node c.binary_search_by_key.result c.requires facts.bound position

pub returns-in-Err : goal.returns-in-Err
returns-in-Err c =
    let facts = c.binary_search_by_key.ensures in
    let position = facts.position (λ (m : NewNode). m.node) (answers_always _ _ _ (λ f a r g called. search rules)) in
    sym (ap is_ok c.in-Err.is) ∙ made_or_not c.args.new.now c.args.node c.binary_search_by_key.result c.requires facts.bound position
