use Rattle.st_within_laws.proofs.ShortTexts.{normal_text}
use Rattle.st_within_laws.proofs.laws.changes_are_normal_texts.Goals as goal

pub returns : goal.returns
returns c = normal_text
