use Rattle.std.proofs.Common.{◌++◌, ap, ◌∙◌, subst, sym}
use Rattle.st_ids.specs.Listing.{Has}
use Rattle.st_lemmas.proofs.Bools.{true-false}
use Rattle.st_join_parts.proofs.Rules.{both_rise}
use Rattle.st_join_parts.proofs.clashes.clashes_of_parts.Goals as goal

pub returns-then-not-lists_rise-clause-all : goal.returns-then-not-lists_rise-clause-all
returns-then-not-lists_rise-clause-all c = λ one other. absurd (true-false (c.lists_rise.ensures.1 (both_rise c.args.first.now c.args.then.now (one, other))) c.if-not-lists_rise.true)

pub returns-clause-clash : goal.returns-clause-clash
returns-clause-clash c = λ f h.
    let w = c.in_ok-push_clashes.ensures in
    w.2 f (subst (λ l. Has l f) (w.1 ∙ ap (λ l. l ++ w.0) c.new-found.ensures) h)

pub returns-clause-all : goal.returns-clause-all
returns-clause-all c = λ one other f d.
    let w = c.in_ok-push_clashes.ensures in
    subst (λ l. Has l f) (sym (w.1 ∙ ap (λ l. l ++ w.0) c.new-found.ensures)) (w.3 (one, other) f d)
