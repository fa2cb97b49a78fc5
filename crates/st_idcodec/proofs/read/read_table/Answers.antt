use Rattle.st_idcodec.proofs.Complete.{read_refused}
use Rattle.st_idcodec.proofs.Tables.{read_ok}
use Rattle.st_idcodec.proofs.read.read_table.Goals as goal

pub returns-clause-ok : goal.returns-clause-ok
returns-clause-ok c = read_ok _ c.read.result c.read.ensures.ok

pub returns-clause-refused : goal.returns-clause-refused
returns-clause-refused c = read_refused _ c.read.result c.read.ensures.refused
