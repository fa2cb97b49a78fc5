use Rattle.st_commit_laws.proofs.Going.{tellable_next}
use Rattle.st_commit_laws.proofs.laws.commits_go_on_tellable.Goals as goal

pub returns : goal.returns
returns c = λ h w v s a world tellable rules short next. tellable_next h w v s a world tellable rules short next
