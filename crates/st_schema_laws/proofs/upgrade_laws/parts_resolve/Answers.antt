use Rattle.st_schema_laws.proofs.EditsInParts.{resolves_in_effect, resolves_same}
use Rattle.st_schema_laws.proofs.upgrade_laws.parts_resolve.Goals as goal

pub returns : goal.returns
returns c = record { part = λ p D s G edit sound closed of_root. resolves_same p D sound closed of_root s G edit; in_effect = resolves_in_effect }
