use Rattle.st_laws.proofs.OneOutcome.{associative_one, over_parts_one, parts_over_one}
use Rattle.st_laws.proofs.laws.outcomes_are_one.Goals as goal

pub returns-clause-associative : goal.returns-clause-associative
returns-clause-associative c = λ a b d o p u v w. associative_one c.values_are_one.ensures.composed c.values_are_one.ensures.rebased a b d u v w o p

pub returns-clause-over_parts : goal.returns-clause-over_parts
returns-clause-over_parts c = λ C a b o p k u v. over_parts_one c.values_are_one.ensures.composed c.values_are_one.ensures.rebased C a b k u v o p

pub returns-clause-parts_over : goal.returns-clause-parts_over
returns-clause-parts_over c = λ C K S o p u v w. parts_over_one c.values_are_one.ensures.composed c.values_are_one.ensures.rebased c.values_are_one.ensures.bridged c.values_are_one.ensures.joined C K S u v w o p
