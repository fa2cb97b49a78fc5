use Rattle.std.proofs.lemmas.Result.{IfOk-weaker}
use Rattle.st_run.proofs.Loads.{line_told}
use Rattle.st_run.proofs.work.line_of.Goals as goal

pub returns : goal.returns
returns c =
    IfOk-weaker c.tally_line.result _ _
    (λ line told. line_told c.in_ok-world.world c.args.seed c.args.steps c.in_ok-tally.tally line c.in_ok-world.ensures c.in_ok-tally.ensures told) c.tally_line.ensures
