use Rattle.std.proofs.Common.{subst}
use Rattle.st_forest.specs.inside.Writes.{IsChangedBy}
use Rattle.st_forest.proofs.Applied.{stands_later}
use Rattle.st_forest.proofs.forest.Forest.apply.Goals as goal

pub returns : goal.returns
returns c = λ listed D E f x r.
    stands_later D E x r.0 r.1 listed c.args.self.now c.change_all.new.forest f (subst (λ S. IsChangedBy S c.args.self.now c.change_all.new.forest) r.2 c.in_ok-change_all.ensures)
