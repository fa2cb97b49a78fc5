use Rattle.std.proofs.Common.{ap, ◌∙◌}
use Rattle.std.specs.BTreeMap.{get}
use Rattle.st_ids.specs.Order.{node_cmp}
use Rattle.st_rows.specs.Views.{view_after}
use Rattle.st_rows.specs.Cells.{rebased_mark}
use Rattle.st_rows.specs.Reading.{cell_of}
use Rattle.st_rows.proofs.MarkByMark.{cell_is}
use Rattle.st_rows.proofs.row_bridge.Across.full_then.Goals as goal

pub returns-else-self : goal.returns-else-self
returns-else-self c =
    let one = cell_is c.both.result (rebased_mark (get node_cmp c.args.self.now.seen.now) (cell_of c.args.x) (cell_of c.args.y)) c.both.ensures in
    rw c.if-self.false (ap (λ s. s.full) c.after-else-self.ensures ∙ ap (λ x. (view_after x).full) one)
