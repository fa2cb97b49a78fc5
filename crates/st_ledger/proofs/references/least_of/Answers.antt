use Rattle.std.proofs.Common.{ℕ, min, sym, ap, ◌∙◌}
use Rattle.std.proofs.lemmas.List.Sums.{fold_more}
use Rattle.st_lists.specs.Known.{known_so_far}
use Rattle.st_ledger.proofs.references.least_of.Goals as goal

pub loop-one-preserved : goal.loop-one-preserved
loop-one-preserved c =
    let xs = c.args.connected.now in
    let i = c.loop-one.one-index in
    let known = c.args.known.now in
    c.min-least.ensures ∙ ap (λ k. min k c.known_so_far.result) c.loop-one.invariant ∙ ap (min _) c.known_so_far.ensures
    ∙ sym (fold_more (λ least (t : ℕ). min least (known_so_far known t)) c.args.number xs i 0 c.loop-one-test.true)
