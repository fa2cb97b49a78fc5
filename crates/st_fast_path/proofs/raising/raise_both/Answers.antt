use Rattle.std.proofs.Common.{Result, Ok, Err, false}
use Rattle.std.specs.Prelude.{OnOk}
use Rattle.std.proofs.lemmas.Result.{on_ok_weaker}
use Rattle.st_fast_path.proofs.RowsCounted.{are_beside, are_raised, room_in_change, room_in_step, still_rising}
use Rattle.st_fast_path.proofs.raising.raise_both.Goals as goal

on_any : {A E P : Type 0} (r : Result A E) → P → OnOk r P
on_any (Ok a) p = p
on_any (Err e) p = tt

pub count_rows-requires-clause-room : goal.count_rows-requires-clause-room
count_rows-requires-clause-room c = room_in_change c.args.change.now.rows c.args.step.now.rows c.requires.change_rows c.requires.step_rows c.requires.room

pub count_rows-requires-2-clause-rising : goal.count_rows-requires-2-clause-rising
count_rows-requires-2-clause-rising c = still_rising false c.args.step.now.rows c.args.change.now.rows c.count_rows.new.rows c.in_ok-count_rows.ensures c.requires.change_rows

pub count_rows-requires-2-clause-room : goal.count_rows-requires-2-clause-room
count_rows-requires-2-clause-room c =
    room_in_step c.args.change.now.rows c.args.step.now.rows c.requires.change_rows c.requires.step_rows c.requires.room c.count_rows.new.rows c.in_ok-count_rows.ensures

pub returns-clause-change : goal.returns-clause-change
returns-clause-change c = on_any c.count_rows-2.result (λ rises.
    let e = are_raised c.args.step.now.rows c.args.change.now.rows c.count_rows.new.rows c.in_ok-count_rows.ensures rises.change rises.alike in
    λ i. record c.args.change.now { rows = e i })

pub returns-clause-step : goal.returns-clause-step
returns-clause-step c = on_ok_weaker c.count_rows-2.result (λ counted rises.
    let e = are_beside c.args.change.now.rows c.args.step.now.rows c.requires.step_rows c.count_rows.new.rows c.in_ok-count_rows.ensures rises.alike c.args.step.now.rows c.count_rows-2.new.rows (λ s h. h) rises.step counted in
    λ i. record c.args.step.now { rows = e i }) c.count_rows-2.ensures
