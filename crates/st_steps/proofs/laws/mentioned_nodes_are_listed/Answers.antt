use Rattle.st_steps.proofs.NamesListed.{mentioned_loose, mentioned_stood}
use Rattle.st_steps.proofs.laws.mentioned_nodes_are_listed.Goals as goal

pub returns-clause-stood : goal.returns-clause-stood
returns-clause-stood c = mentioned_stood

pub returns-clause-loose : goal.returns-clause-loose
returns-clause-loose c = mentioned_loose
