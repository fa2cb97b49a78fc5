use Rattle.st_rows.proofs.RowRetreats.{back_leads}
use Rattle.st_seq.proofs.kind.SequenceFieldKind.invert.Goals as goal

pub returns : goal.returns
returns c m a d l = back_leads m a.cells d.cells c.args.step.now.marks c.in_ok-marks.marks l (c.in_ok-marks.ensures.inverted m a.cells d.cells l.step)
