use Rattle.st_trim.proofs.TrimmedSteps.{listing_trimmed}
use Rattle.st_trim.proofs.coverings.trimmed_listings_are_steps.Goals as goal

pub returns : goal.returns
returns c = λ D E K k G T l w t. listing_trimmed D E K k G T l w t
