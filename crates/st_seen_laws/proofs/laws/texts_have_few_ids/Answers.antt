use Rattle.st_seen_laws.proofs.InLogs.{text_few}
use Rattle.st_seen_laws.proofs.laws.texts_have_few_ids.Goals as goal

pub returns : goal.returns
returns c = λ log i e reference ids N few at is. text_few log i e reference ids N at is few
