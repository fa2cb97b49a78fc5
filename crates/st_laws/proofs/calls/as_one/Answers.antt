use Rattle.st_lemmas.proofs.Bools.{true-false}
use Rattle.st_marks.specs.Normal.{IsNormalChange}
use Rattle.st_laws.proofs.OneCall.{joined_told}
use Rattle.st_laws.proofs.calls.as_one.Goals as goal

pub join-requires : goal.join-requires
join-requires c = let short = c.are_short.ensures.0 c.if-are_short.true in record { first = short.0; second = short.1 }

pub returns-in_ok-copy-clause-later : goal.returns-in_ok-copy-clause-later
returns-in_ok-copy-clause-later c = λ D N M J x parts sound is short both first next.
    absurd (true-false (c.are_short.ensures.1 (c.changes_have_short_rows.ensures D N c.args.first.now short first, c.changes_have_short_rows.ensures _ M c.args.then.now both next)) c.if-are_short.false)

pub returns-in_ok-copy-clause-apart : goal.returns-in_ok-copy-clause-apart
returns-in_ok-copy-clause-apart c = λ v w.
    let n : IsNormalChange c.args.first.now = c.changes_that_obey_are_normal.ensures c.args.first.now v in
    let m : IsNormalChange c.args.then.now = c.changes_that_obey_are_normal.ensures c.args.then.now w in
    absurd (true-false (c.are_short.ensures.1 (c.changes_have_short_rows.ensures n.0 n.1 c.args.first.now n.4 n.5, c.changes_have_short_rows.ensures m.0 m.1 c.args.then.now m.4 m.5)) c.if-are_short.false)

pub returns-then-are_short-clause-told : goal.returns-then-are_short-clause-told
returns-then-are_short-clause-told c = λ v w.
    joined_told c.args.first.now c.args.then.now (λ X. c.joined_parts_obey.ensures c.args.first.now c.args.then.now X v w) c.join.result c.join.ensures.joined (c.join.ensures.apart v w)

pub returns-in_ok-copy-clause-told : goal.returns-in_ok-copy-clause-told
returns-in_ok-copy-clause-told c = λ v w.
    let n : IsNormalChange c.args.first.now = c.changes_that_obey_are_normal.ensures c.args.first.now v in
    let m : IsNormalChange c.args.then.now = c.changes_that_obey_are_normal.ensures c.args.then.now w in
    absurd (true-false (c.are_short.ensures.1 (c.changes_have_short_rows.ensures n.0 n.1 c.args.first.now n.4 n.5, c.changes_have_short_rows.ensures m.0 m.1 c.args.then.now m.4 m.5)) c.if-are_short.false)
