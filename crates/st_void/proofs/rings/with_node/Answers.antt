use Rattle.std.proofs.Common.{◌++◌, ◌∷◌, [], sym, subst}
use Rattle.st_marks.specs.Document.{Reaches}
use Rattle.st_doc.proofs.Verdicts.{least_more}
use Rattle.st_void.specs.declared.standing.When.{When}
use Rattle.st_void.specs.Standing.{above_shown}
use Rattle.st_void.specs.inside.Puts.{IsLeastRing, put_here}
use Rattle.st_void.proofs.rings.with_node.Goals as goal

pub returns-in-Some : goal.returns-in-Some
returns-in-Some c seen h =
    let C = c.args.change.now in
    subst (λ o. IsLeastRing C (seen ++ put_here o) c.least_with.result) (sym c.in-Some.is)
    (subst (IsLeastRing C (seen ++ c.in-Some.node ∷ [])) (sym c.least_with.ensures)
    (least_more (λ n. Reaches (above_shown When.After C) n n) seen c.in-Some.node c.is_in_ring.result c.is_in_ring.ensures c.args.least h))
