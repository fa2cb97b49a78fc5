use Rattle.std.proofs.Common.{◌≡◌, Bool, false, true}
use Rattle.st_lemmas.proofs.Bools.{true-false}
use Rattle.st_author_over.proofs.FreeCells.{free_are_new, new_are_free, own_cells}
use Rattle.st_author_over.proofs.OffForests.{found_is_over, over_is_found}
use Rattle.st_author_over.proofs.stands.stands_before.Goals as goal

pub returns-then-not-finds_all : goal.returns-then-not-finds_all
returns-then-not-finds_all c = λ T stands sound rules. (
  λ t. absurd (let e : ◌≡◌ {A = Bool} false true = t in cc),
  λ x. absurd (true-false (c.finds_all.ensures.1 (over_is_found c.args.forest.now T stands c.args.step.now c.args.change.now x)) c.if-not-finds_all.true),
)

pub returns : goal.returns
returns c = λ T stands sound rules.
    let F = c.args.forest.now in
    let S = c.args.step.now in
    let C = c.args.change.now in (
      λ t. found_is_over F T stands S C (free_are_new F T stands sound S C (own_cells C rules) (c.cells_are_free.ensures.0 t)) (c.finds_all.ensures.0 c.if-not-finds_all.false),
      λ x. c.cells_are_free.ensures.1 (new_are_free F T stands sound S C x.new_cells),
    )
