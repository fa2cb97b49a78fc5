use Rattle.st_clusters.proofs.TablesReached.{reached_begins, reached_joins, reached_generates, reached_takes, reached_rewinds, reached_finalises}
use Rattle.st_clusters.proofs.laws.reached_tables_go_on.Goals as goal

pub returns-clause-begins : goal.returns-clause-begins
returns-clause-begins c = reached_begins

pub returns-clause-joins : goal.returns-clause-joins
returns-clause-joins c = reached_joins

pub returns-clause-generates : goal.returns-clause-generates
returns-clause-generates c = reached_generates

pub returns-clause-takes : goal.returns-clause-takes
returns-clause-takes c = reached_takes

pub returns-clause-rewinds : goal.returns-clause-rewinds
returns-clause-rewinds c = reached_rewinds

pub returns-clause-finalises : goal.returns-clause-finalises
returns-clause-finalises c = reached_finalises
