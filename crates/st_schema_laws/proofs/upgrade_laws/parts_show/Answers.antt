use Rattle.st_schema_laws.proofs.Shown.{shows_in_effect, shows_same}
use Rattle.st_schema_laws.proofs.upgrade_laws.parts_show.Goals as goal

pub returns : goal.returns
returns c = record { node = λ is_array p D n d s closed of_root e. shows_same p D s closed is_array n d of_root e; in_effect = shows_in_effect }
