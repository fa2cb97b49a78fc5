use Rattle.std.proofs.Common.{subst}
use Rattle.std.specs.Prelude.{IfOk}
use Rattle.st_lemmas.proofs.Bools.{true-false}
use Rattle.st_marks.proofs.OneVerdict.{one_verdict}
use Rattle.st_bridge.proofs.ShortChanges.{change_short}
use Rattle.st_bridge.specs.inside.Ways.{LeadsToVoid}
use Rattle.st_bridge.proofs.ways.way_to_void.Goals as goal

pub returns-then-not-has_short_rows : goal.returns-then-not-has_short_rows
returns-then-not-has_short_rows c = λ D N v x f short plain emb is. absurd (true-false (c.has_short_rows.ensures.1 (change_short D N c.args.change.now short emb)) c.if-not-has_short_rows.true)

pub returns : goal.returns
returns c = λ D N v x f short plain emb is.
    let w = c.in_ok-done.ensures.exact D N x f short emb in
    subst (λ z. IfOk c.way_back_of.result (λ o. LeadsToVoid D N z o)) (one_verdict D N c.in_ok-done.done.verdict v w.0 is) (c.way_back_of.ensures D N x f short plain w.0 w.1)
