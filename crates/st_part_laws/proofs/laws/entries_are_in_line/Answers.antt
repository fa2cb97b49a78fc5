use Rattle.st_part_laws.proofs.Chains.{line_begins, lines_after, lines_run}
use Rattle.st_part_laws.proofs.laws.entries_are_in_line.Goals as goal

pub returns : goal.returns
returns c = record { opening = line_begins; after = lines_after; run = lines_run }
