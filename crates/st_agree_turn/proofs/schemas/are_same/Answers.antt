use Rattle.std.proofs.lemmas.Slice.Eq.{slice_eq-Decides}
use Rattle.st_agree_turn.proofs.SchemasMeet.{entries_decide}
use Rattle.st_agree_turn.proofs.schemas.are_same.Goals as goal

pub returns : goal.returns
returns c = slice_eq-Decides entries_decide c.args.a.now c.args.b.now c.eq.result c.eq.ensures
