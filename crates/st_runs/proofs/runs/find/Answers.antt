use Rattle.std.proofs.Common.{◌∙◌, length}
use Rattle.std.specs.List.{flat_map}
use Rattle.st_runs.proofs.Finding.{stands_inside, not_past}
use Rattle.st_runs.proofs.runs.find.Goals as goal

pub returns-then-rest-from-clause-range : goal.returns-then-rest-from-clause-range
returns-then-rest-from-clause-range g c =
    not_past (length (flat_map g.R.Run.items c.args.runs.now)) c.args.place
    (stands_inside g.R.Run.items c.args.runs.now c.loop-i.i c.loop-i.rest c.args.place c.from.result c.index-runs-i.result c.loop-i-test.true
    c.index-runs-i.is c.loop-i.invariant (c.from.ensures ∙ c.size-size.ensures) c.if-rest-from.true)
