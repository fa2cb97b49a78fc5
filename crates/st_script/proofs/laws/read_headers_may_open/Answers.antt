use Rattle.st_script.proofs.OfForm.{header_line_kept}
use Rattle.st_script.proofs.laws.read_headers_may_open.Goals as goal

pub returns : goal.returns
returns c = header_line_kept
