use Rattle.st_compat.proofs.Reading.{equal_reads}
use Rattle.st_compat.proofs.laws.equal_reads.Goals as goal

pub returns : goal.returns
returns c = equal_reads
