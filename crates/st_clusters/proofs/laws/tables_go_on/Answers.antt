use Rattle.st_clusters.proofs.SessionsTouched.{touched_generating, touched_taking, touched_rewinding}
use Rattle.st_clusters.proofs.TableOfRanges.{table_touched, table_finalises}
use Rattle.st_clusters.proofs.laws.tables_go_on.Goals as goal

pub returns-clause-generates : goal.returns-clause-generates
returns-clause-generates c = λ rs s n t v is e. table_touched rs t v is (touched_generating s n t v e)

pub returns-clause-takes : goal.returns-clause-takes
returns-clause-takes c = λ rs s r t v is e. table_touched rs t v is (touched_taking s r t v e)

pub returns-clause-rewinds : goal.returns-clause-rewinds
returns-clause-rewinds c = λ rs s t v is e. table_touched rs t v is (touched_rewinding s t v e)

pub returns-clause-finalises : goal.returns-clause-finalises
returns-clause-finalises c = table_finalises
