use Rattle.std.proofs.lemmas.Slice.Eq.{slice_eq-Decides}
use Rattle.st_idcodec.proofs.Parsing.{clusters_decide}
use Rattle.st_idcodec.proofs.read.are_same.Goals as goal

pub returns : goal.returns
returns c = slice_eq-Decides clusters_decide c.args.first.now c.args.second.now c.eq.result c.eq.ensures
