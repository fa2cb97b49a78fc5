use Rattle.st_window_laws.proofs.Found.{found, found_unless}
use Rattle.st_window_laws.proofs.laws.commits_are_found.Goals as goal

pub returns-clause-found : goal.returns-clause-found
returns-clause-found c = found

pub returns-clause-none : goal.returns-clause-none
returns-clause-none c = found_unless
