use Rattle.st_one_answers.proofs.OneRun.{run_front, run_whole}
use Rattle.st_one_answers.proofs.laws.one_run.Goals as goal

pub returns : goal.returns
returns c = record { whole = run_whole c.requests_have_one_answer.ensures; front = run_front c.requests_have_one_answer.ensures }
