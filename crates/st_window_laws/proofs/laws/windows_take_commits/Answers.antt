use Rattle.st_window_laws.proofs.Windowed.{numbers_within, taken}
use Rattle.st_window_laws.proofs.laws.windows_take_commits.Goals as goal

pub returns-clause-room : goal.returns-clause-room
returns-clause-room c = numbers_within

pub returns-clause-taken : goal.returns-clause-taken
returns-clause-taken c = taken
