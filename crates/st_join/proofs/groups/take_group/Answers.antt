use Rattle.std.proofs.Common.{◌∙◌, ◌&&◌, ◌||◌, List, Some, ap, cond, true}
use Rattle.std.specs.BTreeSet.{contains}
use Rattle.std.specs.List.{list_any}
use Rattle.st_ids.specs.Order.{same_node}
use Rattle.st_marks.specs.declared.intents.Owned.{Owned}
use Rattle.st_marks.specs.Intent.{same_anchor}
use Rattle.st_join.specs.inside.Places.{place_cmp}
use Rattle.st_join.proofs.Steps.{place_eq, taken_by}
use Rattle.st_join.proofs.groups.take_group.Goals as goal

pub returns : goal.returns
returns c = λ n a.
    let g = c.args.group.now in
    let old = contains place_cmp c.args.taken.now (n, a) in
    let after = λ (os : List Owned). list_any (λ (o : Owned). same_anchor (Some o.cell) a) os in
    c.in_ok-take_after.ensures n a ∙ ap (λ b. b || (same_node g.node n && after c.as_slice.result.now)) (c.in_ok-add.ensures (n, a))
    ∙ (λ i. (cond (place_eq g.node n g.after a i) true old) || (same_node g.node n && after (c.as_slice.ensures i)))
    ∙ taken_by old (same_node g.node n) (same_anchor g.after a) (after g.cells)
