use Rattle.std.proofs.Common.{◌∙◌, is_ok, sym, ap, subst, true≢false}
use Rattle.st_compat.specs.Relation.{IsUpgrade, IsRelation}
use Rattle.st_compat.proofs.Passing.{relation_told}
use Rattle.st_compat.proofs.relation.compat.Goals as goal

pub returns-in_ok-causes : goal.returns-in_ok-causes
returns-in_ok-causes c =
    let s = c.args.stored.now in
    let v = c.args.view.now in
    let narrower : IsUpgrade s v → ⊥ = λ up. true≢false (sym (c.is_ok.ensures.value ∙ ap is_ok (c.wider.ensures ∙ up)) ∙ c.if-is_ok.false) in
    subst (IsRelation s v) (sym c.by_causes.ensures) (relation_told s v c.in_ok-causes.field-0 (c.are_equal.ensures.no c.if-are_equal.false) narrower c.in_ok-causes.ensures)
