use Rattle.st_conform_laws.proofs.LaterDocuments.{keeps_there}
use Rattle.st_conform_laws.proofs.SchemasOfParts.{part_agrees}
use Rattle.st_conform_laws.proofs.laws.authors_keep_later.Goals as goal

pub returns : goal.returns
returns c = record {
  in_effect = λ entries As Bs part closed new. (part_agrees As Bs part closed new entries).has;
  last = λ entries As Bs part closed new. (part_agrees As Bs part closed new entries).last;
  keeps = λ T D E N same one other fits there lives k. keeps_there T D E N same one other fits there lives k;
}
