use Rattle.std.proofs.Common.{◌≡◌, true, ◌∙◌}
use Rattle.st_lemmas.proofs.Bools.{true-false}
use Rattle.st_marks.specs.Document.{Reaches}
use Rattle.st_void.specs.declared.standing.When.{When}
use Rattle.st_void.specs.Standing.{above_shown}
use Rattle.st_void.proofs.Climbs.{is_above_some, listed_if_above}
use Rattle.st_climb.proofs.ShortestClimbs.{last}
use Rattle.st_void.proofs.rings.is_in_ring.Goals as goal

pub returns-else-has_listed : goal.returns-else-has_listed
returns-else-has_listed c =
    let listed : Reaches (above_shown When.After c.args.change.now) c.args.node c.args.node → c.has_listed.result ≡ true = λ r.
    let x = last (above_shown When.After c.args.change.now) r.0 c.args.node c.args.node r.1 in
    c.has_listed.ensures ∙ listed_if_above c.args.change.now c.args.node (is_above_some When.After c.args.change.now x.0 c.args.node x.1) in
    (λ e. absurd (true-false e c.if-has_listed.false), listed)
