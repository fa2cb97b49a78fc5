use Rattle.std.proofs.Common.{◌≡◌, ◌++◌, arith, length, subst}
use Rattle.std.proofs.lemmas.Bool.Decides.{nat_tests}
use Rattle.std.specs.List.{flat_map}
use Rattle.st_clash.specs.inside.Seen.{apart_cell, row_seen}
use Rattle.st_clash.proofs.Tables.{nothing, some_table}
use Rattle.st_clash.proofs.twice.push_twice.Goals as goal

pub returns-then-is_empty : goal.returns-then-is_empty
returns-then-is_empty c =
    let none : length c.in_ok-list.list ≡ 0 = grind (arith, nat_tests, c.is_empty.ensures, c.if-is_empty.true) in
    let table = some_table (flat_map row_seen c.args.others.now) in
    (table.0, table.1, subst (λ l. c.args.bad.now ≡ c.args.bad.now ++ flat_map (apart_cell table.0) l) c.in_ok-list.ensures (nothing (apart_cell table.0) c.args.bad.now c.in_ok-list.list none))
