use Rattle.st_lemmas.proofs.Lists.{drop-slice_get}
use Rattle.st_author_over.proofs.side.slot_at.Goals as goal

pub returns : goal.returns
returns c = drop-slice_get c.args.row.now c.args.place c.in-Ok.slot c.in-Ok.ensures.ok
