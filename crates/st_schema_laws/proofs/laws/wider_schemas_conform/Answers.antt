use Rattle.st_schema_laws.proofs.Wider.{agrees_wider, conforms_wider}
use Rattle.st_schema_laws.proofs.laws.wider_schemas_conform.Goals as goal

pub returns : goal.returns
returns c = record {
  documents = λ old new home D sound wide here. conforms_wider old new sound wide home D here;
  intents = λ old new home D N sound wide types a. agrees_wider old new sound wide home D N types a;
}
