use Rattle.st_part_laws.proofs.Schemas.{entries_carried, schemas_run, schemas_then}
use Rattle.st_part_laws.proofs.laws.schemas_go_by_commits.Goals as goal

pub returns : goal.returns
returns c = record {
  one = λ D N v w h. entries_carried D N w v h;
  run = λ D E Ns all r. schemas_run r all;
  then = schemas_then;
}
