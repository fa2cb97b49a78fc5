use Rattle.st_rebase.proofs.rows.row_over_step.Goals as goal

pub returns-clause-over : goal.returns-clause-over
returns-clause-over c = c.in_ok-marks.ensures c.args.row.now.node
