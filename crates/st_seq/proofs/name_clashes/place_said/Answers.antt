use Rattle.std.proofs.Common.{◌⊎◌, sym, ◌∙◌, subst}
use Rattle.st_seq.specs.NamedApart.{NamedApart}
use Rattle.st_seq.specs.inside.NamedApart.{IsPlace, first_clash}
use Rattle.st_ids.specs.Order.{lesser}
use Rattle.st_seq.proofs.NamedCells.{clash_place, lesser_place}
use Rattle.st_seq.proofs.name_clashes.place_said.Goals as goal

pub returns : goal.returns
returns c =
    let first = c.args.first.now in
    let then = c.args.then.now in
    subst (IsPlace (λ k. NamedApart first.cells then.cells k ⊎ NamedApart first.nodes then.nodes k)) (sym (c.lesser.ensures ∙ (λ i. lesser (c.in_ok-cell.ensures i) (c.in_ok-node.ensures i))))
    (lesser_place (NamedApart first.cells then.cells) (NamedApart first.nodes then.nodes) (first_clash first.cells then.cells) (first_clash first.nodes then.nodes) (clash_place first.cells then.cells) (clash_place first.nodes then.nodes))
