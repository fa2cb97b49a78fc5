use Rattle.st_texts.proofs.OneText.{text_one}
use Rattle.st_texts.proofs.laws.entries_have_one_text.Goals as goal

pub returns : goal.returns
returns c = text_one
