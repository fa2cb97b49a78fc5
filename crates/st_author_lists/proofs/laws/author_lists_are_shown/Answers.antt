use Rattle.st_author_lists.proofs.Fitted.{shown_list}
use Rattle.st_author_lists.proofs.laws.author_lists_are_shown.Goals as goal

pub returns : goal.returns
returns c = λ h w d world there on. shown_list h w d world there on
