use Rattle.std.proofs.Common.{◌≡◌, ◌↔◌, true, subst, sym}
use Rattle.st_marks.specs.Document.{revs}
use Rattle.st_keeps.specs.Moves.{ClearMakersKnown}
use Rattle.st_keeps.proofs.Makings.{all_clears_known}
use Rattle.st_keeps.proofs.known.clear_makers_known.Goals as goal

pub returns : goal.returns
returns c = λ O log knows.
    subst (λ b. (b ≡ true) ↔ ClearMakersKnown O log (revs c.args.front.now) c.args.intent.now) (sym c.clears_known.ensures)
    (all_clears_known O log c.args.makers.now knows c.args.front.now c.args.intent.now)
