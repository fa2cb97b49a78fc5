use Rattle.st_schema_laws.proofs.Homes.{tells_own, document_keeps, intent_keeps}
use Rattle.st_schema_laws.proofs.InTurn.{list_keeps}
use Rattle.st_schema_laws.proofs.laws.homes_can_be_told.Goals as goal

pub returns : goal.returns
returns c = record {
  tells = tells_own;
  documents = document_keeps;
  intents = intent_keeps;
  lists = λ s home rs D N Ns itself made f new a. list_keeps s home N itself Ns rs D made f new a;
}
