use Rattle.st_schema_laws.proofs.Back.{back_agrees}
use Rattle.st_schema_laws.proofs.laws.ways_back_agree.Goals as goal

pub returns : goal.returns
returns c = λ s home D E rev under B x before after b. back_agrees s home D E x rev under B b before after
