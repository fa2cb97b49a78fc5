use Rattle.std.proofs.Common.{refl}
use Rattle.st_parts.proofs.trimming.trim_listing.Goals as goal

pub returns-clause-exact : goal.returns-clause-exact
returns-clause-exact c = λ D N K x f l. c.trim_change.ensures.exact D N K x l (c.in_ok-named.ensures D N K c.args.listing x f l refl)

pub returns-clause-shown : goal.returns-clause-shown
returns-clause-shown c = λ D N K G x f l e. c.trim_change.ensures.shown D N K G x l e (c.in_ok-named.ensures D N K G x f l e)
