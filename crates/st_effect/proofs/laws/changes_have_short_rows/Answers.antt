use Rattle.st_effect.proofs.ShortChanges.{change_short}
use Rattle.st_effect.proofs.laws.changes_have_short_rows.Goals as goal

pub returns : goal.returns
returns c = change_short
