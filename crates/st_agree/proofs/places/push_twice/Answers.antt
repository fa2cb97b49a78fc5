use Rattle.std.proofs.Common.{◌≡◌, ◌++◌, arith, length, subst}
use Rattle.std.proofs.lemmas.Bool.Decides.{nat_tests}
use Rattle.st_agree.specs.inside.Places.{found_twice, placements_of_step}
use Rattle.st_agree.proofs.NodesTwice.{none_twice, some_table}
use Rattle.st_agree.proofs.places.push_twice.Goals as goal

pub returns-then-is_empty : goal.returns-then-is_empty
returns-then-is_empty c =
    let none : length c.in_ok-list.list ≡ 0 = grind (arith, nat_tests, c.is_empty.ensures, c.if-is_empty.true) in
    let others = placements_of_step c.args.step.now in
    let table = some_table others in
    (table.0, table.1, subst (λ l. c.args.found.now ≡ c.args.found.now ++ found_twice l others table.0) c.in_ok-list.ensures (none_twice c.args.found.now c.in_ok-list.list others table.0 none))
