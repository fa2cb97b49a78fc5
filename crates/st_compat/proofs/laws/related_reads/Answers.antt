use Rattle.st_compat.proofs.Reading.{related_reads}
use Rattle.st_compat.proofs.laws.related_reads.Goals as goal

pub returns : goal.returns
returns c = related_reads
