use Rattle.std.proofs.Common.{◌≡◌, arith, length, sym, ◌∙◌}
use Rattle.std.proofs.lemmas.Bool.Decides.{nat_tests}
use Rattle.st_lemmas.proofs.Bools.{not-true}
use Rattle.st_clash.specs.inside.Made.{named_in_rows}
use Rattle.st_clash.proofs.OneRevision.{none_again, none_made}
use Rattle.st_clash.proofs.made.are_new.Goals as goal

pub returns-in-None : goal.returns-in-None
returns-in-None c e =
    let none : length c.args.made.now ≡ 0 = grind (arith, nat_tests, c.in-None.ensures.value) in
    none_made c.args.made.now (named_in_rows c.args.rows.now) none

pub returns-then-are_of : goal.returns-then-are_of
returns-then-are_of c e = none_again c.in-Some.cell.now.0.rev c.args.made.now (named_in_rows c.args.rows.now) (sym c.are_of.ensures ∙ c.if-are_of.true) (sym c.rows_name.ensures ∙ not-true _ e)
