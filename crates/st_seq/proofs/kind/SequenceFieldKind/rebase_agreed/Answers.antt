use Rattle.std.proofs.Common.{ap, ◌∙◌}
use Rattle.st_rows.proofs.PartsThatFit.{change_is, keeps_is}
use Rattle.st_rows.specs.declared.values.RowChange.{RowChange}
use Rattle.st_seq.proofs.kind.SequenceFieldKind.rebase_agreed.Goals as goal

pub returns : goal.returns
returns c p m a d w v k e l =
    let marks = c.in_ok-marks.ensures p.part m a.cells d.cells (change_is p a.cells _ w e) l.step (keeps_is p l.step.grows w l.after.once k) in
    λ i. record { rev = (e i).rev; in_new = (e i).in_new; new = (c.in_ok-new.ensures ∙ ap (λ (x : RowChange). x.new) e) i; marks = marks i }
