use Rattle.st_texts.proofs.OneText.{text_stays}
use Rattle.st_texts.proofs.laws.texts_stay.Goals as goal

pub returns : goal.returns
returns c = text_stays
