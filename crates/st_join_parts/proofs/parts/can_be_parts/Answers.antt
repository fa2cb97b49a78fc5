use Rattle.std.proofs.Common.{inl, inr, sym, ◌∙◌}
use Rattle.st_lemmas.proofs.Bools.{not-true, true-false}
use Rattle.st_join_parts.proofs.PartsTold.{have_schemas, not_not, not_of_one, of_one, parts, ring_breaks, suits}
use Rattle.st_join_parts.proofs.parts.can_be_parts.Goals as goal

pub returns-then-not-are_of_one-clause-broken : goal.returns-then-not-are_of_one-clause-broken
returns-then-not-are_of_one-clause-broken c = λ e. inr (not_of_one c.args.first.now c.args.then.now (sym c.are_of_one.ensures ∙ c.if-not-are_of_one.true))

pub returns-then-not-bases_fit-clause-broken : goal.returns-then-not-bases_fit-clause-broken
returns-then-not-bases_fit-clause-broken c = λ e. inl (λ w.
    true-false (suits c.args.first.now c.args.then.now (of_one c.args.first.now c.args.then.now (sym c.are_of_one.ensures ∙ c.if-not-are_of_one.false)) w) (sym c.bases_fit.ensures ∙ c.if-not-bases_fit.true))

pub returns-clause-broken : goal.returns-clause-broken
returns-clause-broken c = λ e. inr (ring_breaks c.args.first.now c.args.then.now (c.in_ok-ring.ensures.ring (not_not c.in_ok-ring.ring e)))

pub returns-clause-hold : goal.returns-clause-hold
returns-clause-hold c = λ one other e.
    let C = c.args.first.now in
    let K = c.args.then.now in
    let of = of_one C K (sym c.are_of_one.ensures ∙ c.if-not-are_of_one.false) in
    (have_schemas C K of (sym c.bases_fit.ensures ∙ c.if-not-bases_fit.false), parts C K of (c.in_ok-ring.ensures.none one other (not-true c.in_ok-ring.ring e)))
