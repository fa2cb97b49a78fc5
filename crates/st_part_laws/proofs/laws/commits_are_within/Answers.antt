use Rattle.st_part_laws.proofs.Chains.{named_in_effect}
use Rattle.st_part_laws.proofs.Joins.{join_within}
use Rattle.st_part_laws.proofs.Within.{more_within, within_later}
use Rattle.st_part_laws.proofs.laws.commits_are_within.Goals as goal

pub returns : goal.returns
returns c = record { later = within_later; in_effect = named_in_effect; more = more_within; joined = join_within }
