use Rattle.std.proofs.Common.{sym, subst, ◌∙◌}
use Rattle.st_lemmas.proofs.Bools.{true-false}
use Rattle.st_marks.specs.Verdict.{IsAboveItself, IsUnmetNeed}
use Rattle.st_doc.specs.inside.Ahead.{IsLeastOf}
use Rattle.st_void.proofs.ThinChanges.{base_of, ring_shown, under_of, unmet_shown}
use Rattle.st_void.proofs.verdicts.verdict.Goals as goal

pub returns-then-not-change : goal.returns-then-not-change
returns-then-not-change c D N s f shows = (
  under_of c.args.change.now shows.0 shows.2 ∙ shows.1.under,
  λ b. true-false (shows.1.base.1 b) (sym (base_of c.args.change.now shows.0 shows.2) ∙ c.if-not-change.true),
)

pub returns-in-Some : goal.returns-in-Some
returns-in-Some c D N s f shows = (
  shows.1.base.0 (sym (base_of c.args.change.now shows.0 shows.2) ∙ c.if-not-change.false),
  subst (IsLeastOf (IsUnmetNeed D N)) c.in-Some.is (unmet_shown D N c.args.change.now s f shows c.least_unmet.result c.least_unmet.ensures),
)

pub returns-in-Some-least_ring : goal.returns-in-Some-least_ring
returns-in-Some-least_ring c D N s f shows = (
  shows.1.base.0 (sym (base_of c.args.change.now shows.0 shows.2) ∙ c.if-not-change.false),
  subst (IsLeastOf (IsUnmetNeed D N)) c.in-None.is (unmet_shown D N c.args.change.now s f shows c.least_unmet.result c.least_unmet.ensures),
  subst (IsLeastOf (IsAboveItself D N)) c.in-Some-least_ring.is (ring_shown D N c.args.change.now s f shows c.least_ring.result c.least_ring.ensures),
)

pub returns-in-None-least_ring : goal.returns-in-None-least_ring
returns-in-None-least_ring c D N s f shows = (
  shows.1.base.0 (sym (base_of c.args.change.now shows.0 shows.2) ∙ c.if-not-change.false),
  subst (IsLeastOf (IsUnmetNeed D N)) c.in-None.is (unmet_shown D N c.args.change.now s f shows c.least_unmet.result c.least_unmet.ensures),
  subst (IsLeastOf (IsAboveItself D N)) c.in-None-least_ring.is (ring_shown D N c.args.change.now s f shows c.least_ring.result c.least_ring.ensures),
)
