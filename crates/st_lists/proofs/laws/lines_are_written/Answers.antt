use Rattle.st_lists.proofs.Written.{commit_elsewhere, commit_here, transaction_elsewhere, transaction_here}
use Rattle.st_lists.proofs.laws.lines_are_written.Goals as goal

pub returns : goal.returns
returns c = record { commit = commit_here; commit_elsewhere = commit_elsewhere; transaction = transaction_here; transaction_elsewhere = transaction_elsewhere }
