use Rattle.st_marks.proofs.Unique.{one_embedding}
use Rattle.st_marks.proofs.laws_of_listings.one_embedding.Goals as goal

pub returns : goal.returns
returns c = one_embedding
