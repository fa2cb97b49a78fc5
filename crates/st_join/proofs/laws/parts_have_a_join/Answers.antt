use Rattle.st_join.specs.inside.Lists.{join_of}
use Rattle.st_join.proofs.JoinOf.{joined_is_join}
use Rattle.st_join.proofs.laws.parts_have_a_join.Goals as goal

pub returns : goal.returns
returns c = λ D N M s p. (join_of N M, joined_is_join D N M s p)
