use Rattle.st_lemmas.proofs.Bools.{true-false}
use Rattle.st_parts.proofs.ShortListings.{listing_short}
use Rattle.st_parts.proofs.ThinListings.{same_short}
use Rattle.st_parts.proofs.trimming.trim_if_short.Goals as goal

pub returns-then-has_short_rows-clause-exact : goal.returns-then-has_short_rows-clause-exact
returns-then-has_short_rows-clause-exact c = λ D N K x f short l. c.trim_listing.ensures.exact D N K x f l

pub returns-then-has_short_rows-clause-shown : goal.returns-then-has_short_rows-clause-shown
returns-then-has_short_rows-clause-shown c = λ D N K G x f short l e. c.trim_listing.ensures.shown D N K G x f l e

pub returns-else-has_short_rows-clause-exact : goal.returns-else-has_short_rows-clause-exact
returns-else-has_short_rows-clause-exact c = λ D N K x f short l.
    absurd (true-false (c.has_short_rows.ensures.1 (listing_short D N K c.args.listing short l)) c.if-has_short_rows.false)

pub returns-else-has_short_rows-clause-shown : goal.returns-else-has_short_rows-clause-shown
returns-else-has_short_rows-clause-shown c = λ D N K G x f short l e.
    absurd (true-false (c.has_short_rows.ensures.1 (same_short c.args.listing G e (listing_short D N K G short l))) c.if-has_short_rows.false)
