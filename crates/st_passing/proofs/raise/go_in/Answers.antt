use Rattle.std.proofs.Common.{◌≡◌, ◌∷◌, [], ◌++◌, ◌-◌, sym, subst, ◌∙◌, arith, suc, ◌≤◌}
use Rattle.st_marks.specs.Row.{counted_cells, spread}
use Rattle.st_passing.specs.Raising.{count_by}
use Rattle.st_passing.proofs.Seats.{within, at_end, passed_by}
use Rattle.st_passing.proofs.raise.go_in.Goals as goal

pub returns-then-left-k : goal.returns-then-left-k
returns-then-left-k c = λ m is. (is, subst (λ x. counted_cells (suc c.args.k) (spread c.args.more.now) ≡ count_by c.args.among c.args.left (spread (x ∷ c.args.more.now))) (sym is) (within c.args.among c.args.left c.args.k (spread c.args.more.now) c.if-left-k.true))

pub returns-then-may_end : goal.returns-then-may_end
returns-then-may_end c = λ m is. (
  is,
  subst (λ x. counted_cells (suc c.args.k) (spread c.args.more.now) ≡ count_by c.args.among c.args.left (spread (x ∷ c.args.more.now))) (sym is)
      (subst (λ i. counted_cells (suc c.args.k) (spread c.args.more.now) ≡ count_by c.args.among i (counted_cells c.args.k (spread c.args.more.now))) (sym c.if-left-k-2.true) (at_end c.args.among c.args.k c.args.more.now (sym c.may_end.ensures ∙ c.if-may_end.true))),
)

pub returns : goal.returns
returns c = λ m is.
    let h : c.args.k ≤ c.args.left = omega (arith, c.if-left-k.false) in
    subst (λ x. spread (x ∷ []) ++ count_by c.args.among (c.args.left - c.args.k) (spread c.args.more.now) ≡ count_by c.args.among c.args.left (spread (x ∷ c.args.more.now))) (sym is) (passed_by c.args.among c.args.k c.args.left (spread c.args.more.now) h)
