use Rattle.st_forest.proofs.OneDocument.{one_document}
use Rattle.st_forest.proofs.laws.one_document.Goals as goal

pub returns : goal.returns
returns c = one_document
