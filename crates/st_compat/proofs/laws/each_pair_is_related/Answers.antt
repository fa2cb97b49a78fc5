use Rattle.st_compat.proofs.Deciding.{has_relation}
use Rattle.st_compat.proofs.laws.each_pair_is_related.Goals as goal

pub returns : goal.returns
returns c = has_relation
