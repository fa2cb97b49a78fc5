use Rattle.st_conform_laws.proofs.FrontsOfSchemas.{fronts_are_lines}
use Rattle.st_conform_laws.proofs.laws.fronts_are_lines.Goals as goal

pub returns : goal.returns
returns c = λ chain O D Ls one begins all tell r u front p. fronts_are_lines chain O D Ls one begins all tell r u front p
