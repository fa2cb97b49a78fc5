use Rattle.st_puts.proofs.MapEntries.{has_key}
use Rattle.st_puts.proofs.climb.PlacesAbove.has_lower.Goals as goal

pub returns : goal.returns
returns c = λ p n m e. has_key p.places.now n m e
