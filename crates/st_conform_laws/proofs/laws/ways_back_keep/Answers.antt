use Rattle.st_conform_laws.proofs.DocumentsAfter.{way_keeps}
use Rattle.st_conform_laws.proofs.laws.ways_back_keep.Goals as goal

pub returns : goal.returns
returns c = λ T D E N B rev s f short none h a here other there more b. way_keeps T D E N B rev s f short none h a here other there more b
