use Rattle.st_line_laws.proofs.Transacted.{shown_there}
use Rattle.st_line_laws.proofs.laws.transactions_are_seen.Goals as goal

pub returns : goal.returns
returns c = λ is_array D s rev edits joined d sound schema tells typed e shown. shown_there D s rev sound schema is_array tells d typed e shown
