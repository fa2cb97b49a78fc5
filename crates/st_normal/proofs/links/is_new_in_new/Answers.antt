use Rattle.st_normal.proofs.NoRings.{both_new}
use Rattle.st_normal.proofs.links.is_new_in_new.Goals as goal
use Rattle.st_lemmas.proofs.Bools.{true-false}

pub returns-then-is_new : goal.returns-then-is_new
returns-then-is_new g c =
    let b = both_new (g.L.HasEntries.listed c.args.look.now.lists).new c.args.link in
    (λ t. b.1 (c.is_new.ensures.0 c.if-is_new.true, c.is_new-then-is_new.ensures.0 t), λ t. c.is_new-then-is_new.ensures.1 (b.0 t).1)

pub returns-else-is_new : goal.returns-else-is_new
returns-else-is_new g c =
    let b = both_new (g.L.HasEntries.listed c.args.look.now.lists).new c.args.link in
    (λ t. absurd (true-false t c.if-is_new.false), λ t. c.is_new.ensures.1 (b.0 t).0)
