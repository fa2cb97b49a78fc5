use Rattle.st_schema_laws.proofs.WaysBackInEffect.{way_agrees}
use Rattle.st_schema_laws.proofs.upgrade_laws.ways_back_agree_in_line.Goals as goal

pub returns : goal.returns
returns c = λ T D E N B rev s f short data_only sound a here other there more told b. way_agrees T D N s f short data_only sound a here E other there more rev B told b
