use Rattle.st_author_lists.proofs.Texted.{has_text}
use Rattle.st_author_lists.proofs.laws.entries_have_texts.Goals as goal

pub returns : goal.returns
returns c = has_text
