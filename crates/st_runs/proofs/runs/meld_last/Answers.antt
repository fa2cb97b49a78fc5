use Rattle.std.proofs.Common.{refl}
use Rattle.std.specs.Vec.{vec_len}
use Rattle.st_runs.proofs.Melded.{melded}
use Rattle.st_runs.proofs.runs.meld_last.Goals as goal

pub returns-in-Some : goal.returns-in-Some
returns-in-Some g c =
    melded g.R.Run.items c.args.runs.now.items (vec_len c.args.runs.now) c.in-Some.last.now c.meld.new.self c.args.run c.meld.result
    c.args.runs.now.ok.0 (c.in-Some.ensures.variant.0 refl) c.in-Some.ensures.value c.meld.ensures
