use Rattle.st_author_lists.proofs.KnownWriting.{known_written}
use Rattle.st_author_lists.proofs.laws.written_changes_are_known.Goals as goal

pub returns : goal.returns
returns c = λ h w v s a received D schema given e N C world writes meant told next accepted. known_written h w v s a received D schema given e writes N meant next accepted C world told
