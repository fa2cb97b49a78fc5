use Rattle.st_meaning.proofs.Same.{changes_decide}
use Rattle.st_meaning.proofs.meaning.is_same.Goals as goal

pub returns : goal.returns
returns c = changes_decide c.args.a.now c.args.b.now c.eq.result c.eq.ensures
