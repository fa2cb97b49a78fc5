use Rattle.st_seen_laws.proofs.Seen.{name_read_back}
use Rattle.st_seen_laws.proofs.laws.seen_names_are_read_back.Goals as goal

pub returns : goal.returns
returns c = λ log session reference ids r few within known. name_read_back log session reference ids few within r known
