use Rattle.st_schema_laws.proofs.Changes.{change_agrees}
use Rattle.st_schema_laws.proofs.SchemasKept.{edit_agrees, join_agrees}
use Rattle.st_schema_laws.proofs.upgrade_laws.edits_agree_in_line.Goals as goal

pub returns : goal.returns
returns c = record {
  edit = λ T D G edit N s here nodes cells own told e. edit_agrees T D s here G nodes cells edit N own told e;
  join = λ T D N M J s here after parts join base a b. join_agrees T D s here N M J after parts join a b base;
  change = change_agrees;
}
