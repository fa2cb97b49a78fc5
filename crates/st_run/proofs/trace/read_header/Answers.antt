use Rattle.std.proofs.Common.{codes}
use Rattle.st_script.specs.Header.{header_view}
use Rattle.st_script.proofs.OfForm.{header_line_kept}
use Rattle.st_run.proofs.trace.read_header.Goals as goal

pub new-requires : goal.new-requires
new-requires c =
    let kept = header_line_kept (codes "trace") c.args.line.now (header_view c.in_ok-header.header) c.in_ok-header.ensures.ok in
    record { schema = kept.0; tree = kept.1 }
