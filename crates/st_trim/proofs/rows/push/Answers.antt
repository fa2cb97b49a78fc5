use Rattle.std.proofs.Common.{arith, sym, ◌∙◌}
use Rattle.st_trim.proofs.WrittenMarks.{count_length, push_counted, push_named}
use Rattle.st_trim.proofs.rows.push.Goals as goal

pub returns-in-Some-clause-fewer : goal.returns-in-Some-clause-fewer
returns-in-Some-clause-fewer c = let h = count_length c.args.mark c.in-Some.more (sym c.count_of.ensures ∙ c.in-Some.is) in omega (arith, h, c.saturating_add.ensures)

pub returns-in-Some-clause-cells : goal.returns-in-Some-clause-cells
returns-in-Some-clause-cells c = λ rest short.
    let said = sym c.count_of.ensures ∙ c.in-Some.is in
    let h = count_length c.args.mark c.in-Some.more said in
    push_counted c.args.out.now c.args.count c.saturating_add.result c.in-Some.more c.args.mark rest said (omega (arith, h, short, c.saturating_add.ensures))

pub returns-in_ok-push_behind-in-None-clause-cells : goal.returns-in_ok-push_behind-in-None-clause-cells
returns-in_ok-push_behind-in-None-clause-cells c = λ rest short. push_named c.args.out.now c.push_behind.new.out c.args.count c.args.mark rest (sym c.count_of.ensures ∙ c.in-None.is) c.in_ok-push_behind-in-None.ensures
