use Rattle.st_idcodec.proofs.Final.{reached_is, value_same, final_joins, final_generates, final_takes, final_rewinds, final_finalises}
use Rattle.st_idcodec.proofs.laws.only_finalised_ids_are_written.Goals as goal

pub returns-clause-value : goal.returns-clause-value
returns-clause-value c = value_same

pub returns-clause-joins : goal.returns-clause-joins
returns-clause-joins c = final_joins

pub returns-clause-generates : goal.returns-clause-generates
returns-clause-generates c = final_generates

pub returns-clause-takes : goal.returns-clause-takes
returns-clause-takes c = final_takes

pub returns-clause-rewinds : goal.returns-clause-rewinds
returns-clause-rewinds c = final_rewinds

pub returns-clause-finalises : goal.returns-clause-finalises
returns-clause-finalises c = final_finalises

pub returns-clause-reached : goal.returns-clause-reached
returns-clause-reached c = reached_is
