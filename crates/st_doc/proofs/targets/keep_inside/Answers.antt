use Rattle.std.proofs.Common.{cond, None, Some, Option, ap, ◌∙◌}
use Rattle.std.specs.BTreeMap.{get}
use Rattle.std.specs.Option.{option_or}
use Rattle.st_ids.specs.Order.{node_cmp, same_node}
use Rattle.st_marks.specs.declared.places.Spot.{Spot}
use Rattle.st_doc.specs.inside.Ahead.{inside_new}
use Rattle.st_doc.proofs.targets.keep_inside.Goals as goal

pub returns : goal.returns
unfolding same_node
returns c = λ n.
    let old = get node_cmp c.args.kept.now n in
    let N = c.args.intent.now in
    c.in_ok-set.ensures n
    ∙ ap (λ s. cond (same_node c.args.node n) (Some s) old) c.in_ok-copy.ensures
    ∙ ap (λ (o : Option Spot). cond (same_node c.args.node n) (option_or o old) old)
    (ap (λ b. cond b (Some c.in-Some.spot.now) None) c.if-not-is_in_new.ensures ∙ ap (inside_new N) c.in-Some.ensures.value)
