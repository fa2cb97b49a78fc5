use Rattle.st_rows.proofs.DocumentsBack.{back_is}
use Rattle.st_rows.proofs.Documents.{part_fits}
use Rattle.st_rows.proofs.DocumentsAfter.{void_is, whole_is}
use Rattle.st_rows.proofs.laws.rows_are_of_documents.Goals as goal

pub returns-clause-fits : goal.returns-clause-fits
returns-clause-fits c = part_fits

pub returns-clause-whole : goal.returns-clause-whole
returns-clause-whole c = λ D N m new n x w. whole_is D N n x w m new

pub returns-clause-void : goal.returns-clause-void
returns-clause-void c = λ D N m new n x w listed. void_is D N n x w m new listed

pub returns-clause-back : goal.returns-clause-back
returns-clause-back c = back_is
