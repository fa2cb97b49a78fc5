use Rattle.st_compat.proofs.Reading.{wider_reads}
use Rattle.st_compat.proofs.laws.wider_reads.Goals as goal

pub returns : goal.returns
returns c = wider_reads
