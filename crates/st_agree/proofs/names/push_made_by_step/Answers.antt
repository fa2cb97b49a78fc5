use Rattle.std.proofs.Common.{◌≡◌, arith, length}
use Rattle.std.proofs.lemmas.Bool.Decides.{nat_tests}
use Rattle.st_agree.specs.inside.Names.{nodes_of_change}
use Rattle.st_agree.proofs.NamedNodes.{none_made}
use Rattle.st_agree.proofs.names.push_made_by_step.Goals as goal

pub returns-then-is_empty : goal.returns-then-is_empty
returns-then-is_empty c =
    let none : length c.args.step.now.new ≡ 0 = grind (arith, nat_tests, c.is_empty.ensures, c.if-is_empty.true) in
    none_made c.args.step.now.new none c.args.found.now (nodes_of_change c.args.change.now)
