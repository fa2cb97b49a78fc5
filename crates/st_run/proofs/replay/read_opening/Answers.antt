use Rattle.std.proofs.Common.{codes}
use Rattle.st_script.specs.Header.{header_view}
use Rattle.st_script.proofs.OfForm.{header_line_kept}
use Rattle.st_run.proofs.replay.read_opening.Goals as goal

pub open-requires : goal.open-requires
open-requires c =
    let kept = header_line_kept (codes "replay") c.args.line.now (header_view c.in_ok-header.header) c.in_ok-header.ensures.ok in
    record { schema = kept.0; tree = kept.1 }

pub returns-clause-ok : goal.returns-clause-ok
returns-clause-ok c =
    let h = header_view c.in_ok-header.header in
    let kept = header_line_kept (codes "replay") c.args.line.now h c.in_ok-header.ensures.ok in
    (h, c.in_ok-header.ensures.ok, record { schema = kept.0; tree = kept.1 }, c.in_ok-open.ensures)
