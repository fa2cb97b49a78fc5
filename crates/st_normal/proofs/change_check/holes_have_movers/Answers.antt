use Rattle.std.proofs.Common.{◌≡◌, ◌↔◌, ◌⊎◌, IsTrue, List, Some, subst, ap, ◌∙◌}
use Rattle.std.specs.List.{AllByRecursion}
use Rattle.st_ids.specs.Listing.{Has}
use Rattle.st_ids.specs.declared.names.NodeId.{NodeId}
use Rattle.st_marks.specs.declared.marks.How.TheVariants.{Here, Leave}
use Rattle.st_normal.specs.Rules.{hole_owners, in_rows, entries_of_change}
use Rattle.st_normal.specs.inside.Rules.{how_found}
use Rattle.st_normal.proofs.Obeyed.{moves}
use Rattle.st_normal.proofs.change_check.holes_have_movers.Goals as goal

pub returns : goal.returns
returns c = λ once.
    let C = c.args.look.now.lists.0.now in
    let L = entries_of_change C in
    let xs = in_rows hole_owners C.rows in
    let e = subst (λ (ys : List NodeId). IsTrue c.each.result ↔ AllByRecursion (λ n. Has L.new n ⊎ (how_found L n ≡ Some Here) ⊎ (how_found L n ≡ Some Leave)) ys) (c.in_rows.ensures ∙ ap (in_rows hole_owners) c.as_slice-rows.ensures) c.each.ensures in
    (λ t. (moves L once xs).0 (e.0 t), λ a. e.1 ((moves L once xs).1 a))
