use Rattle.std.proofs.Common.{◌∙◌}
use Rattle.st_run.proofs.text.keep_authors.Goals as goal

pub returns-in_ok-opening-clause-under_way : goal.returns-in_ok-opening-clause-under_way
returns-in_ok-opening-clause-under_way c = λ k h w u. record {
  stands = u.stands;
  fit = u.fit;
  few = u.few;
  kept = (c.new.ensures.opening ∙ c.in_ok-opening.ensures.is k h w u.stands, c.new.ensures.authors w.log, λ r k there. absurd (c.new.ensures.known r k there));
}
